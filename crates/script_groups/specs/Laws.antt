-- What holds of a group of a script, and after more events.
use Rattle.std.specs.Prelude.{◌≡◌, ℕ, ◌+◌, ◌<◌, ◌≤◌, ◌&&◌, not, true, List, length, Some, IfSome}
use Rattle.std.specs.List.{AllByRecursion}
use Rattle.ft_base.specs.Journal.{AtMostOnce}
use Rattle.ft_base.specs.Members.{AreDifferent}
use Rattle.ft_base.specs.declared.numbers.GroupId.{GroupId}
use Rattle.ft_base.specs.declared.views.Style.{Style}
use Rattle.ft_base.specs.declared.limits.TheConstants.{HOST_LIMIT}
use Rattle.ft_base.specs.declared.views.TheConstants.{MEMBER_LIMIT}
use Rattle.ft_base.specs.declared.decisions.Decision.{Decision}
use Rattle.ft_base.specs.declared.decisions.Stop.{Stop}
use Rattle.ft_base.specs.declared.numbers.HostNo.{HostNo}
use Rattle.ft_base.specs.declared.numbers.Tick.{Tick}
use Rattle.ft_base.specs.declared.views.View.{View}
use Rattle.sys_faults.specs.declared.answers.Answer.{Answer}
use Rattle.group_core.specs.Telling.{shown_view}
use Rattle.group_model.specs.declared.asking.Asked.{Asked}
use Rattle.group_model.specs.declared.events.Event.{Event}
use Rattle.group_model.specs.declared.events.Event.TheVariants as events
use Rattle.group_model.specs.declared.events.GroupAnswer.TheVariants as answers
use Rattle.group_model.specs.declared.events.Out.{Out}
use Rattle.group_model.specs.Answering.{IsAnswered}
use Rattle.group_model.specs.Events.{after_event, shows_fault}
use Rattle.group_model.specs.Laws.{Grows, Lasts}
use Rattle.group_model.specs.Sending.{brought, sent_by}
use Rattle.script_groups.specs.Acting.{IsSoundGroup, MayCome}
use Rattle.script_groups.specs.Groups.{ScriptGroup, acted, common_of, entries_caught_up, entries_run, failing, group_of, is_failing, machine_of, opened, orders_applied, reply_of, servant_calls, turn, with_more}
use Rattle.script_groups.specs.Takers.{checkpoint_taker, update_taker}
use Rattle.shipped_servants.specs.declared.kinds.Kind.{Kind}
use Rattle.script_groups.specs.declared.happenings.Happening.{Happening}

-- its plain group is that after the event
abbrev pub HistoriesGoOn : Type 0
HistoriesGoOn = (g : ScriptGroup) (e : Event) → group_of (acted g e) ≡ after_event (machine_of g) (group_of g) e (is_failing g)

-- it stays sound
abbrev pub GroupsStaySound : Type 0
GroupsStaySound = (g : ScriptGroup) (e : Event) → IsSoundGroup g → MayCome g e → IsSoundGroup (acted g e)

-- Whatever more happens to it, its journal and its views only got more.
abbrev pub GroupsGrow : Type 0
GroupsGrow = (g : ScriptGroup) (more : List Happening) → Grows (common_of g) (common_of (with_more g more))

-- An accepted entry's reply is what it was.
abbrev pub RepliesStay : Type 0
RepliesStay = (g : ScriptGroup) (more : List Happening) (i : ℕ) → i < length (common_of g).journal → reply_of (with_more g more) i ≡ reply_of g i

-- Each request was accepted at most once before its expiration.
abbrev pub JournalsAcceptOnce : Type 0
JournalsAcceptOnce = (g : ScriptGroup) → AtMostOnce (common_of g).journal

-- Servant calls are those of turns: as many as accepted entries were run, entries were caught up with by a host, and
-- orders were applied.
abbrev pub CallsGoOn : Type 0
CallsGoOn = (g : ScriptGroup) (e : Event) → servant_calls (acted g e) ≡ servant_calls g + (turn g e).calls

abbrev pub CallsAreCounted : Type 0
CallsAreCounted = (g : ScriptGroup) → servant_calls g ≡ entries_run g + entries_caught_up g + orders_applied g

-- A group to which nothing has happened has called no servant.
abbrev pub NoneCalledYet : Type 0
NoneCalledYet = (id : GroupId) (name : List ℕ) (kind : Kind) (style : Style) (members : List ℕ) → servant_calls (opened id name kind style members) ≡ 0

-- what could come to it still can
abbrev pub EventsLast : Type 0
EventsLast = (g : ScriptGroup) (e other : Event) → IsSoundGroup g → MayCome g e → Lasts other → MayCome g other → MayCome (acted g e) other

-- what it sent may come to the hosts to which it goes
abbrev pub SentMayCome : Type 0
SentMayCome = (g : ScriptGroup) (e : Event) → IsSoundGroup g → MayCome g e →
    AllByRecursion (λ (out : Out). MayCome (acted g e) (brought out)) (sent_by (turn g e).answer)

-- a request is answered in form
abbrev pub AnswersAreInForm : Type 0
AnswersAreInForm = (g : ScriptGroup) (host : HostNo) (clock : Tick) (asked : Asked) (stop : Stop)
    (decision : Decision) (answer : Answer) (out : List Out) → IsSoundGroup g → MayCome g (events.Request host clock asked stop) →
    (turn g (events.Request host clock asked stop)).answer ≡ answers.Reply decision (Some answer) out →
    IsAnswered (machine_of g) (common_of (acted g (events.Request host clock asked stop))) asked.op answer

-- ---- failures of its log's next write

-- One that is asked for leaves the plain group as it is, and calls no servant.
abbrev pub FailuresChangeNothing : Type 0
FailuresChangeNothing = (g : ScriptGroup) → (group_of (failing g) ≡ group_of g) × (servant_calls (failing g) ≡ servant_calls g)

-- So the group stays sound, and what could come to it still can.
abbrev pub FailingStaysSound : Type 0
FailingStaysSound = (g : ScriptGroup) → IsSoundGroup g → IsSoundGroup (failing g)

abbrev pub FailingLetsCome : Type 0
FailingLetsCome = (g : ScriptGroup) (e : Event) → MayCome g e → MayCome (failing g) e

-- It comes at the next write, and once.
abbrev pub FailuresComeOnce : Type 0
FailuresComeOnce = (g : ScriptGroup) →
    (is_failing (failing g) ≡ true) × ((e : Event) → is_failing (acted g e) ≡ is_failing g && not (shows_fault (turn g e).answer))

-- ---- what it has

-- a view that it has had: its members are hosts that there can be, and few
pub record IsShownView (view : View) : Type 0 where
  pub hosts : AllByRecursion (λ host. host < HOST_LIMIT) view.members
  pub few : length view.members ≤ MEMBER_LIMIT
  pub different : AreDifferent view.members

abbrev pub ShownAreViews : Type 0
ShownAreViews = (g : ScriptGroup) (version : ℕ) (view : View) → IsSoundGroup g → shown_view (common_of g) version ≡ Some view → IsShownView view

-- the host that takes its checkpoints is one that there can be
abbrev pub TakersAreInside : Type 0
TakersAreInside = (g : ScriptGroup) → IsSoundGroup g → IfSome (checkpoint_taker g) (λ host. host.0 < HOST_LIMIT)

-- it may take one, and the host that sends its updates may send one
abbrev pub TakersMayTake : Type 0
TakersMayTake = (g : ScriptGroup) (host : HostNo) (clock : Tick) → IsSoundGroup g → checkpoint_taker g ≡ Some host → MayCome g (events.Checkpoint host clock)

abbrev pub UpdatersMaySend : Type 0
UpdatersMaySend = (g : ScriptGroup) (host : HostNo) → IsSoundGroup g → update_taker g ≡ Some host → MayCome g (events.SendUpdate host)
