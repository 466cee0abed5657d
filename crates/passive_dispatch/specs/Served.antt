-- What serving a request leaves, at a host whose replica has run the whole journal.
use Rattle.std.specs.Prelude.{◌≡◌, ℕ, ◌+◌, ◌≤◌, ◌⊎◌, max, Bool, true, false, List, [], ◌∷◌, ◌++◌, length, Option}
use Rattle.ft_base.specs.Machine.{Machine, Fits}
use Rattle.ft_base.specs.declared.decisions.Decision.{Decision}
use Rattle.ft_base.specs.declared.decisions.Decision.TheVariants as decisions
use Rattle.ft_base.specs.declared.decisions.Stop.{Stop}
use Rattle.ft_base.specs.declared.decisions.Stop.TheVariants.{Never, AfterAppend, AfterExecute}
use Rattle.ft_base.specs.declared.limits.TheConstants.{ARGUMENTS_LIMIT}
use Rattle.ft_base.specs.declared.numbers.Tick.{Tick}
use Rattle.ft_base.specs.declared.numbers.Version.{Version}
use Rattle.ft_base.specs.declared.requests.Request.{Request}
use Rattle.ft_outside.specs.Keeping.{plan_after, IsForetold}
use Rattle.ft_outside.specs.Outside.{next_count}
use Rattle.sys_faults.specs.declared.answers.Answer.{Answer}
use Rattle.log_records.specs.Records.{entry_record}
use Rattle.message_log.specs.Calls.{kept, accepted_by}
use Rattle.message_log.specs.Picture.{Picture as LogPicture}
use Rattle.message_log.specs.declared.answers.Admit.{Admit}
use Rattle.message_log.specs.declared.answers.Admit.TheVariants as admits
use Rattle.ft_replica.specs.Picture.{Picture as ReplicaPicture}
use Rattle.group_model.specs.declared.events.GroupAnswer.TheVariants.{Reply}
use Rattle.group_model.specs.declared.events.Out.{Out}
use Rattle.ft_base.specs.Admissions.{admission}
use Rattle.ft_base.specs.declared.admissions.Admission.TheVariants.{Same, New}
use Rattle.group_model.specs.Lean.{IsToRun}
use Rattle.group_model.specs.Plain.{Common, Host, Place, nowhere}
use Rattle.group_model.specs.Serving.{joined, accepted, served}
use Rattle.group_model.specs.Turns.{Turn}
use Rattle.group_model.specs.Views.{newest}
use Rattle.group_stands.specs.Stands.{LogStands, ReplicaStands, IsCaughtUp}
use Rattle.passive_dispatch.specs.declared.serving.Replied.{Replied}
use Rattle.passive_dispatch.specs.declared.serving.Served.{Served}
use Rattle.passive_dispatch.specs.declared.serving.Served.TheVariants.{Done, NoMemory}

-- what a contract sees of a host: its group's log, its replica, and the number of servant calls so far
pub record Seen : Type 0 where
  pub log : LogPicture
  pub replica : ReplicaPicture
  pub steps : ℕ

abbrev pub seen : LogPicture → ReplicaPicture → ℕ → Seen
seen log replica steps = record { log = log; replica = replica; steps = steps }

-- ---- who may be asked what

-- Both stand for a group and a host that has caught up, the writer knows the newest version, and the request
-- may be run.
pub record CanServe (machines : ℕ → Machine) (c : Common) (place : Place) (version : ℕ) (request : Request) (now : Seen) : Type 0 where
  pub log : LogStands machines c now.log
  pub replica : ReplicaStands machines c now.replica place
  pub caught_up : IsCaughtUp c place
  pub newest : version ≡ newest c
  pub fits : Fits (machines c.kind) request
  pub short : length request.args ≤ ARGUMENTS_LIMIT

-- ---- a turn

-- a decision and an answer with which nothing is sent
abbrev pub alone : Decision → Option Answer → Replied
alone decision answer = record { decision = decision; answer = answer; out = [] }

-- Log, replica, decision, answer and servant calls are a turn's. What it sends isn't there yet.
pub record IsTurn (machines : ℕ → Machine) (t : Turn) (replied : Replied) (before : ℕ) (now : Seen) : Type 0 where
  pub log : LogStands machines t.common now.log
  pub replica : ReplicaStands machines t.common now.replica t.host.place
  pub out : List Out
  pub told : t.answer ≡ Reply replied.decision replied.answer out
  pub none : replied.out ≡ []
  pub calls : now.steps ≡ before + t.calls

-- how often the servant is called for a request that joins, by where its host stops
abbrev pub calls_by : Stop → ℕ
calls_by Never = 1
calls_by AfterAppend = 0
calls_by AfterExecute = 1

-- the request joined, and its host was to run it; no memory was found for that or for the copy of its outcome, and the
-- replica is blank
pub record IsUnrun (machines : ℕ → Machine) (c : Common) (clock : ℕ) (request : Request) (stop : Stop) (before : ℕ) (now : Seen) : Type 0 where
  pub log : LogStands machines (joined c (max clock c.time) request) now.log
  pub replica : ReplicaStands machines (joined c (max clock c.time) request) now.replica nowhere
  pub to_run : IsToRun stop
  pub calls : now.steps ≡ before + calls_by stop

-- whether a decision shows that the log's write failed
abbrev pub shows_fault : Decision → Bool
shows_fault decisions.LogFault = true
shows_fault other = false

-- The request had the plain group's turn; or memory was wanted, and all is as before, or it was new and joined
-- unrun.
abbrev pub IsServed : (ℕ → Machine) → Common → Host → ℕ → ℕ → Request → Stop → Served → Seen → Seen → Type 0
IsServed machines c h host clock request stop (Done replied) before now =
    IsTurn machines (served (machines c.kind) c h host clock request stop (shows_fault replied.decision)) replied before.steps now
IsServed machines c h host clock request stop NoMemory before now =
    (now ≡ before) ⊎ ((admission c.journal (max clock c.time) request ≡ New) × IsUnrun machines c clock request stop before.steps now)

-- the same of a request that has joined the journal
abbrev pub IsRun : (ℕ → Machine) → Common → Host → ℕ → ℕ → Request → Stop → Served → Seen → Seen → Type 0
IsRun machines c h host clock request stop (Done replied) before now =
    IsTurn machines (accepted (machines c.kind) c h host (max clock c.time) request stop) replied before.steps now
IsRun machines c h host clock request stop NoMemory before now = IsUnrun machines c clock request stop before.steps now

-- it is the journal's last entry, which nobody has run, and the replica has run all before it
pub record HasJoined (machines : ℕ → Machine) (c : Common) (place : Place) (clock : ℕ) (request : Request) (now : Seen) : Type 0 where
  pub log : LogStands machines (joined c (max clock c.time) request) now.log
  pub replica : ReplicaStands machines c now.replica place
  pub caught_up : IsCaughtUp c place
  pub ran : c.ran ≡ length c.journal

-- the entry at the replica's position can be run
pub record CanRun (machines : ℕ → Machine) (c : Common) (place : Place) (its_log : LogPicture) (its_replica : ReplicaPicture) : Type 0 where
  pub log : LogStands machines c its_log
  pub replica : ReplicaStands machines c its_replica place
  pub loaded : place.loaded ≡ true
  pub marked : c.mark ≤ place.position
  pub inside : place.position + 1 ≤ length c.journal

-- ---- what is told

-- this is answered and nothing is sent, unless memory is wanted
abbrev pub IsTold : Decision → Option Answer → Served → Type 0
IsTold decision answer (Done replied) = replied ≡ alone decision answer
IsTold decision answer NoMemory = Unit {0}

abbrev pub IsDecided : Decision → Served → Type 0
IsDecided decision (Done replied) = replied.decision ≡ decision
IsDecided decision NoMemory = Unit {0}

-- memory was wanted, so this holds
abbrev pub IfNoMemory : Served → Type 0 → Type 0
IfNoMemory (Done replied) P = Unit {0}
IfNoMemory NoMemory P = P

-- Memory is taken for the copy of a repeat's reply, and for a request that is new.
abbrev pub TakesMemory : Admit → Type 0
TakesMemory (admits.Admission (Same i)) = Unit {0}
TakesMemory (admits.Admission New) = Unit {0}
TakesMemory other = ⊥

-- ---- what the keeper did

-- the entry's record was kept, the last one, and the log has the entry
pub record IsKept (old : LogPicture) (version : Version) (clock : Tick) (request : Request) (new : LogPicture) : Type 0 where
  pub foretold : IsForetold old.plan false
  pub mark : new.mark ≡ old.mark
  pub entries : new.entries ≡ old.entries ++ record { at = max clock.0 old.time; request = request } ∷ []
  pub records : new.records ≡ old.records ++ entry_record (accepted_by old version clock request) ∷ []
  pub plan : new.plan ≡ plan_after old.plan
  pub faults : new.faults ≡ old.faults

-- the write failed, as the plan said where it is told: the count of faults rises, and nothing else changes
abbrev pub IsFailed : LogPicture → LogPicture → Type 0
IsFailed old new = IsForetold old.plan true × (new ≡ kept old old.records (plan_after old.plan) (next_count old.faults))

-- only a new request is written, and nothing else changes the log
abbrev pub IsWrittenAs : Decision → LogPicture → Version → Tick → Request → LogPicture → Type 0
IsWrittenAs (decisions.Append i) old version clock request new = IsKept old version clock request new
IsWrittenAs decisions.LogFault old version clock request new = IsFailed old new
IsWrittenAs other old version clock request new = new ≡ old

abbrev pub IsWritten : Served → LogPicture → Version → Tick → Request → LogPicture → Type 0
IsWritten (Done replied) old version clock request new = IsWrittenAs replied.decision old version clock request new
IsWritten NoMemory old version clock request new = (new ≡ old) ⊎ IsKept old version clock request new
