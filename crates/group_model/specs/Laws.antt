-- What holds of a group over every list of events, or over those that agree.
use Rattle.std.specs.Prelude.{◌≡◌, ℕ, ◌<◌, ◌≤◌, ◌⊎◌, Bool, List, ◌++◌, length, Some, None}
use Rattle.ft_base.specs.Machine.{Machine}
use Rattle.ft_base.specs.Journal.{Entry, IsJournal, reply_at}
use Rattle.ft_base.specs.Laws.{Stays}
use Rattle.ft_base.specs.declared.decisions.Decision.{Decision}
use Rattle.ft_base.specs.declared.decisions.Decision.TheVariants as decisions
use Rattle.ft_base.specs.declared.decisions.Stop.{Stop}
use Rattle.ft_base.specs.declared.numbers.HostNo.{HostNo}
use Rattle.ft_base.specs.declared.numbers.Tick.{Tick}
use Rattle.group_model.specs.declared.asking.Asked.{Asked}
use Rattle.ft_base.specs.declared.views.View.{View}
use Rattle.group_model.specs.declared.events.Event.{Event}
use Rattle.group_model.specs.declared.events.Event.TheVariants as events
use Rattle.group_model.specs.declared.events.GroupAnswer.{GroupAnswer}
use Rattle.group_model.specs.declared.events.GroupAnswer.TheVariants as answers
use Rattle.group_model.specs.Plain.{Common, Group, state_at, put, with_ran, caught_up}
use Rattle.group_model.specs.Views.{newest}
use Rattle.group_model.specs.Decisions.{known_then}
use Rattle.group_model.specs.Events.{turn_of, host_of, after_event}
use Rattle.group_model.specs.Agreeing.{Agrees, IsSound}
use Rattle.group_model.specs.Runs.{Step, after_steps, AllAgree}

-- what is said of a group and the one after some events
abbrev pub Onward : (Machine → Group → Group → Type 0) → Type 0
Onward P = (m : Machine) (g : Group) (steps : List Step) → Stays m → IsSound m g → AllAgree m g steps → P m g (after_steps m g steps)

-- what is said of them whether the events agree or not
abbrev pub Whatever : (Machine → Group → Group → Type 0) → Type 0
Whatever P = (m : Machine) (g : Group) (steps : List Step) → P m g (after_steps m g steps)

-- A group stays sound. So each request is accepted at most once before its expiration, acceptance ticks never
-- fall, no host is past what has run, the k-th view has version k, and a passive view's primary is a member.
abbrev pub GroupsStaySound : Type 0
GroupsStaySound = Onward (λ m g after. IsSound m after)

-- The journal only grows, so an accepted entry stays what it is, at its place; and so do the views. The group
-- still has the views that it has. Time never falls, nor how much has run.
pub record Grows (c after : Common) : Type 0 where
  pub id : after.id ≡ c.id
  pub style : after.style ≡ c.style
  pub kind : after.kind ≡ c.kind
  pub opening : after.opening ≡ c.opening
  pub more : List Entry
  pub journal : after.journal ≡ c.journal ++ more
  pub newer : List View
  pub views : after.views ≡ c.views ++ newer
  pub first_kept : after.first_kept ≡ c.first_kept
  pub time : c.time ≤ after.time
  pub ran : c.ran ≤ after.ran

abbrev pub GroupsGrow : Type 0
GroupsGrow = Whatever (λ m g after. Grows g.common after.common)

-- The reply that the journal gives an entry never changes.
abbrev pub RepliesStay : Type 0
RepliesStay = Whatever (λ m g after. (i : ℕ) → i < length g.common.journal →
    reply_at m after.common.opening after.common.journal i ≡ reply_at m g.common.opening g.common.journal i)

-- So is the state after a number of entries.
abbrev pub StatesStay : Type 0
StatesStay = Whatever (λ m g after. (n : ℕ) → n ≤ length g.common.journal → state_at m after.common n ≡ state_at m g.common n)

-- A journal up to the group's time stays one: no event accepts a request a second time before its expiration.
abbrev pub JournalsStay : Type 0
JournalsStay = Whatever (λ m g after. IsJournal g.common.time g.common.journal → IsJournal after.common.time after.common.journal)

-- No host is past the journal's end.
abbrev pub NoneRunsAhead : Type 0
NoneRunsAhead = Whatever (λ m g after. g.common.ran ≤ length g.common.journal → after.common.ran ≤ length after.common.journal)

-- ---- one event

-- what is answered where a host forgets what it knows: it stops, by itself or in the middle of a request
abbrev pub Forgets : GroupAnswer → Type 0
Forgets answers.Down = Unit {0}
Forgets (answers.Reply decision None out) = Unit {0}
Forgets (answers.Reply decision (Some answer) out) = ⊥
Forgets (answers.Known version) = ⊥
Forgets (answers.Applied n) = ⊥
Forgets (answers.Held n) = ⊥
Forgets (answers.Ignored cause) = ⊥
Forgets (answers.Taken from position out) = ⊥
Forgets (answers.Changed view out) = ⊥
Forgets (answers.Refused fault) = ⊥
Forgets answers.LogFault = ⊥
Forgets answers.Up = ⊥
Forgets answers.NoMemory = ⊥

-- What a host knows never falls while it is up.
abbrev pub KnowledgeNeverFalls : Type 0
KnowledgeNeverFalls = (m : Machine) (g : Group) (e : Event) (fails : Bool) (i : ℕ) → IsSound m g → Agrees m e g →
    (Forgets (turn_of m g e fails).answer → ⊥) → (g.hosts i).known ≤ ((after_event m g e fails).hosts i).known

-- A host that knows an older view than the newest, when it is asked, appends nothing and calls no servant.
abbrev pub DeposedAppendNothing : Type 0
DeposedAppendNothing = (m : Machine) (g : Group) (fails : Bool) (host : HostNo) (clock : Tick) (asked : Asked) (stop : Stop) →
    known_then (newest g.common) (g.hosts host.0).known asked.version < newest g.common →
    ((after_event m g (events.Request host clock asked stop) fails).common ≡ g.common)
    × ((turn_of m g (events.Request host clock asked stop) fails).calls ≡ 0)

-- An event that another host sent, or that comes from outside, goes on agreeing after every event that agrees.
abbrev pub Lasts : Event → Type 0
Lasts (events.Request host clock asked stop) = Unit {0}
Lasts (events.View host sent) = Unit {0}
Lasts (events.State host n state) = Unit {0}
Lasts (events.Update host from to update) = Unit {0}
Lasts (events.Order host i request) = Unit {0}
Lasts (events.Crash host) = Unit {0}
Lasts (events.Restart host) = Unit {0}
Lasts (events.Checkpoint host clock) = ⊥
Lasts (events.SendUpdate host) = ⊥
Lasts (events.Manage change) = Unit {0}

abbrev pub AgreementLasts : Type 0
AgreementLasts = Onward (λ m g after. (e : Event) → Lasts e → Agrees m e g → Agrees m e after)

-- ---- refusals

abbrev pub IsNotAccepted : Decision → Type 0
IsNotAccepted (decisions.Append i) = ⊥
IsNotAccepted other = Unit {0}

-- a request isn't accepted, what is sent is ignored, a change is refused, or the log's write fails
abbrev pub IsRefused : GroupAnswer → Type 0
IsRefused (answers.Reply decision answer out) = IsNotAccepted decision
IsRefused (answers.Ignored cause) = Unit {0}
IsRefused (answers.Refused fault) = Unit {0}
IsRefused answers.LogFault = Unit {0}
IsRefused other = ⊥

-- the group but for what a host knows
abbrev pub knowing : Group → ℕ → ℕ → Group
knowing g at known = record { common = g.common; hosts = put g.hosts at (record (g.hosts at) { known = known }) }

-- the group but for that, and where the host has caught up
abbrev pub catching_up : Group → ℕ → ℕ → Group
catching_up g at known = record {
  common = with_ran (length g.common.journal) g.common;
  hosts = put g.hosts at (caught_up g.common (record (g.hosts at) { known = known }));
}

abbrev pub OnlyKnowsOrCaughtUp : Group → ℕ → Group → Type 0
OnlyKnowsOrCaughtUp g at after = ((known : ℕ) × (after ≡ knowing g at known)) ⊎ ((known : ℕ) × (after ≡ catching_up g at known))

-- A refusal changes nothing but what its host knows, and what catching up moved. So does a repeat.
abbrev pub RefusalsChangeNothing : Type 0
RefusalsChangeNothing = (m : Machine) (g : Group) (e : Event) (fails : Bool) → IsRefused (turn_of m g e fails).answer →
    OnlyKnowsOrCaughtUp g (host_of e) (after_event m g e fails)
