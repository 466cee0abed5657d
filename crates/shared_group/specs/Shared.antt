-- What stands behind the lock: a plain group, and what its events sent and nobody has brought yet. What a call makes of
-- it, and where a list of calls leads. (Chapter 23, "Replication Management", "Logging & Recovery Management".)
use Rattle.std.specs.Prelude.{◌≡◌, ◌<◌, ◌++◌, List, [], ◌∷◌, Bool, false, Option, Some, None}
use Rattle.std.specs.List.{AllByRecursion}
use Rattle.ft_base.specs.Machine.{Machine, gives_of}
use Rattle.ft_base.specs.declared.decisions.Stop.TheVariants.{Never}
use Rattle.ft_base.specs.declared.limits.TheConstants.{HOST_LIMIT}
use Rattle.ft_base.specs.declared.numbers.HostNo.{HostNo}
use Rattle.ft_base.specs.declared.numbers.Tick.{Tick}
use Rattle.ft_base.specs.declared.numbers.Version.{Version}
use Rattle.ft_base.specs.declared.views.View.{View}
use Rattle.sys_faults.specs.declared.answers.Answer.{Answer}
use Rattle.sys_faults.specs.declared.answers.Answer.TheVariants.{Done, System, Forward, ForwardPerm}
use Rattle.group_model.specs.declared.asking.Asked.{Asked}
use Rattle.group_model.specs.declared.events.Event.{Event}
use Rattle.group_model.specs.declared.events.Event.TheVariants as events
use Rattle.group_model.specs.declared.events.GroupAnswer.{GroupAnswer}
use Rattle.group_model.specs.declared.events.GroupAnswer.TheVariants as answers
use Rattle.group_model.specs.declared.events.Out.{Out}
use Rattle.group_model.specs.Agreeing.{Agrees}
use Rattle.group_model.specs.Asking.{signature_asked}
use Rattle.group_model.specs.Events.{shows_fault}
use Rattle.group_model.specs.Laws.{Lasts}
use Rattle.group_model.specs.Plain.{Common, Group}
use Rattle.group_model.specs.Sending.{brought, sent_by}
use Rattle.group_model.specs.Steps.{IsStep}
use Rattle.group_model.specs.Takers.{is_here, taker}
use Rattle.group_core.specs.Telling.{shown_view}
use Rattle.shared_group.specs.declared.calls.AskAnswer.{AskAnswer}
use Rattle.shared_group.specs.declared.calls.Call.{Call}
use Rattle.shared_group.specs.declared.calls.Call.TheVariants as calls
use Rattle.shared_group.specs.declared.calls.CallAnswer.{CallAnswer}
use Rattle.shared_group.specs.declared.calls.CallAnswer.TheVariants as told
use Rattle.shared_group.specs.declared.calls.QueuedAnswer.{QueuedAnswer}
use Rattle.shared_group.specs.Looks.{ShowsFigures, ShowsReply}

pub record Shared : Type 0 where
  pub group : Group
  -- oldest first
  pub queue : List Out

-- a group as it is put behind a lock
abbrev pub opening : Group → Shared
opening g = record { group = g; queue = [] }

-- ---- what is asked

-- the event of a request that is asked in a turn: with clock 0, and no stop
abbrev pub asking : HostNo → Asked → Event
asking host asked = events.Request host (record { 0 = 0 }) asked Never

-- the event that its caller brings, and that has to agree with the group
abbrev pub event_in : Call → Option Event
event_in (calls.Act e) = Some e
event_in (calls.Ask host asked) = Some (asking host asked)
event_in calls.Carry = None
event_in (calls.Checkpoint clock) = None
event_in (calls.Here host) = None
event_in calls.Figures = None
event_in (calls.Reply key) = None

-- a host at which is looked is one that there can be
abbrev pub IsInside : Call → Type 0
IsInside (calls.Here host) = host.0 < HOST_LIMIT
IsInside other = Unit {0}

-- ---- what is answered

-- an answer whose Outs joined the queue
abbrev pub without_out : GroupAnswer → GroupAnswer
without_out (answers.Reply decision answer out) = answers.Reply decision answer []
without_out (answers.Known version) = answers.Known version
without_out (answers.Applied n) = answers.Applied n
without_out (answers.Held n) = answers.Held n
without_out (answers.Ignored cause) = answers.Ignored cause
without_out (answers.Taken from position out) = answers.Taken from position []
without_out (answers.Changed view out) = answers.Changed view []
without_out (answers.Refused fault) = answers.Refused fault
without_out answers.LogFault = answers.LogFault
without_out answers.Down = answers.Down
without_out answers.Up = answers.Up
without_out answers.NoMemory = answers.NoMemory

-- the group's answer to an event, if there was one
abbrev pub answered : CallAnswer → Option GroupAnswer
answered (told.Event answer) = Some answer
answered (told.Ask ask) = Some ask.queued.whole.value
answered (told.Checkpoint queued) = Some queued.whole.value
answered told.Nothing = None
answered (told.Here here) = None
answered (told.Figures figures) = None
answered (told.Reply reply) = None

-- whether it shows that the log's write failed
abbrev pub shows_fault_by : Option GroupAnswer → Bool
shows_fault_by None = false
shows_fault_by (Some answer) = shows_fault answer

-- the version to whose view a request is forwarded
abbrev pub version_in : Answer → Option Version
version_in (Done outcome) = None
version_in (System fault) = None
version_in (Forward version) = Some version
version_in (ForwardPerm version) = Some version

abbrev pub version_by : Option Answer → Option Version
version_by None = None
version_by (Some answer) = version_in answer

abbrev pub version_named : GroupAnswer → Option Version
version_named (answers.Reply decision answer out) = version_by answer
version_named (answers.Known version) = None
version_named (answers.Applied n) = None
version_named (answers.Held n) = None
version_named (answers.Ignored cause) = None
version_named (answers.Taken from position out) = None
version_named (answers.Changed view out) = None
version_named (answers.Refused fault) = None
version_named answers.LogFault = None
version_named answers.Down = None
version_named answers.Up = None
version_named answers.NoMemory = None

-- the view of that version, where the group still has it
abbrev pub view_with : Common → Option Version → Option View
view_with c None = None
view_with c (Some version) = shown_view c version.0

abbrev pub view_named : Common → GroupAnswer → Option View
view_named c answer = view_with c (version_named answer)

-- ---- one turn

module _ (m : Machine) where
  -- an event was acted, and its caller got what it sent
  pub record HandsOut (e : Event) (answer : CallAnswer) (s t : Shared) : Type 0 where
    pub of : GroupAnswer
    pub is : answer ≡ told.Event of
    pub step : IsStep m s.group e of t.group
    pub queue : t.queue ≡ s.queue

  -- an event was acted, and what it sent joined the queue
  pub record Queues (e : Event) (queued : QueuedAnswer) (s t : Shared) : Type 0 where
    pub step : IsStep m s.group e queued.whole.value t.group
    pub answer : queued.answer ≡ without_out queued.whole.value
    pub queue : t.queue ≡ s.queue ++ sent_by queued.whole.value

  pub record Asks (host : HostNo) (asked : Asked) (answer : CallAnswer) (s t : Shared) : Type 0 where
    pub of : AskAnswer
    pub is : answer ≡ told.Ask of
    pub queues : Queues (asking host asked) of.queued s t
    pub gives : of.gives ≡ gives_of (signature_asked m asked.op)
    pub view : of.view ≡ view_named t.group.common of.queued.whole.value

  pub record Checkpoints (e : Event) (answer : CallAnswer) (s t : Shared) : Type 0 where
    pub of : QueuedAnswer
    pub is : answer ≡ told.Checkpoint of
    pub queues : Queues e of s t

  -- nothing changed, and this was answered
  abbrev pub IsLook : CallAnswer → CallAnswer → Shared → Shared → Type 0
  IsLook told answer s t = (answer ≡ told) × (t ≡ s)

  -- the first of the queue arrives, if there is one
  abbrev pub Carries : List Out → CallAnswer → Shared → Shared → Type 0
  Carries [] answer s t = IsLook told.Nothing answer s t
  Carries (out ∷ outs) answer s t = HandsOut (brought out) answer (record s { queue = outs }) t

  -- the host whose part it is takes a checkpoint, where it is up
  abbrev pub Takes : Option HostNo → Tick → CallAnswer → Shared → Shared → Type 0
  Takes None clock answer s t = IsLook told.Nothing answer s t
  Takes (Some host) clock answer s t = Checkpoints (events.Checkpoint host clock) answer s t

  abbrev pub Steps : Call → CallAnswer → Shared → Shared → Type 0
  Steps (calls.Act e) answer s t = Lasts e × HandsOut e answer s t
  Steps (calls.Ask host asked) answer s t = Asks host asked answer s t
  Steps calls.Carry answer s t = Carries s.queue answer s t
  Steps (calls.Checkpoint clock) answer s t = Takes (taker s.group) clock answer s t
  Steps (calls.Here host) answer s t = IsLook (told.Here (is_here s.group host.0)) answer s t
  Steps calls.Figures answer s t = ShowsFigures m s.group answer × (t ≡ s)
  Steps (calls.Reply key) answer s t = ShowsReply m s.group key answer × (t ≡ s)

  -- ---- a history

  -- the calls with their answers lead from one to the other
  unfoldable pub Legal : Shared → List (Call × CallAnswer) → Shared → Type 0
  Legal s [] t = t ≡ s
  Legal s (c ∷ cs) t = (next : Shared) × Steps c.0 c.1 s next × Legal next cs t

  -- all that was sent may come
  abbrev pub AllMayCome : List Out → Group → Type 0
  AllMayCome outs g = AllByRecursion (λ out. Agrees m (brought out) g) outs
