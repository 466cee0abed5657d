-- The turns of a running group's monitor. (Chapter 23, Fault Management: a pull monitor asks members whether they are alive,
-- and reports those that haven't answered.)
use Rattle.std.specs.Prelude.{◌≡◌, ℕ, ◌+◌, ◌*◌, ◌<◌, ◌≤◌, ◌⊎◌, ◌&&◌, not, nat_le, Bool, true, false, if◌then◌else◌, List, [], ◌∷◌, ◌++◌, Option, Some, None, Ok, ◌↔◌}
use Rattle.std.specs.List.{AllByRecursion}
use Rattle.ft_base.specs.Machine.{Machine}
use Rattle.ft_base.specs.declared.limits.TheConstants.{HOST_LIMIT}
use Rattle.ft_base.specs.declared.numbers.HostNo.{HostNo}
use Rattle.group_looks.specs.declared.figures.Figure.{Figure}
use Rattle.group_looks.specs.declared.figures.Figures.{Figures}
use Rattle.group_model.specs.declared.changes.Change.{Change}
use Rattle.group_model.specs.declared.changes.Change.TheVariants as changes
use Rattle.group_model.specs.declared.events.Event.{Event}
use Rattle.group_model.specs.declared.events.Event.TheVariants as events
use Rattle.hist_lock.specs.declared.standings.Turn.{Turn}
use Rattle.hist_lock.specs.Histories.{calls as turns, turns_by}
use Rattle.hist_lock.specs.Passes.{own_turns}
use Rattle.message_log.specs.Picture.{length_of}
use Rattle.shared_group.specs.Books.{BookPicture, IsBook}
use Rattle.shared_group.specs.declared.calls.Call.{Call}
use Rattle.shared_group.specs.declared.calls.Call.TheVariants as calls
use Rattle.shared_group.specs.declared.calls.CallAnswer.{CallAnswer}
use Rattle.shared_group.specs.declared.calls.CallAnswer.TheVariants as told
use Rattle.shared_group.specs.Turns.{GroupPass}
use Rattle.live_monitor.specs.declared.states.Kill.{Kill}

abbrev pub GroupTurn : Type 0
GroupTurn = Turn Call CallAnswer

-- ---- what the monitor is to do

-- which host it is to kill, and whether it has
pub record Errand : Type 0 where
  pub kill : Option Kill
  pub killed : Bool

-- a host that there can be
abbrev pub can_be_killed : Option Kill → Type 0
can_be_killed None = Unit {0}
can_be_killed (Some kill) = kill.host.0 < HOST_LIMIT

abbrev pub kill_due_of : Option Kill → Bool → ℕ → Option HostNo
kill_due_of None killed entries = None
kill_due_of (Some kill) killed entries = if not killed && nat_le kill.after entries then Some kill.host else None

-- the host to be killed now, where so many entries are found
abbrev pub kill_due : Errand → ℕ → Option HostNo
kill_due errand entries = kill_due_of errand.kill errand.killed entries

-- A checkpoint is worth its cost: there are at least a hundred entries behind the last one, and as many as before it.
abbrev pub is_worth : Figures → Bool
is_worth figures = nat_le (figures.mark + 100) figures.entries && nat_le (2 * figures.mark) figures.entries

-- ---- what its turns found

-- such a turn is among them
unfoldable pub SomeTurn : (GroupTurn → Type 0) → List GroupTurn → Type 0
SomeTurn P [] = ⊥
SomeTurn P (turn ∷ turns) = P turn ⊎ SomeTurn P turns

-- at least so many entries were found
abbrev pub Finds : ℕ → CallAnswer → Type 0
Finds entries (told.Figures (Ok figures)) = entries ≤ figures.entries
Finds entries other = ⊥

-- one of these is the host, and it is down
unfoldable pub HasDown : ℕ → List Figure → Type 0
HasDown host [] = ⊥
HasDown host (figure ∷ figures) = ((figure.host.0 ≡ host) × (figure.up ≡ false)) ⊎ HasDown host figures

abbrev pub ShowsDown : ℕ → CallAnswer → Type 0
ShowsDown host (told.Figures (Ok figures)) = HasDown host figures.hosts.items
ShowsDown host other = ⊥

-- the figures of some turn showed the host as down
abbrev pub WasDown : ℕ → List GroupTurn → Type 0
WasDown host turns = SomeTurn (λ turn. ShowsDown host turn.answer) turns

-- these figures are some turn's
abbrev pub Showed : Figures → List GroupTurn → Type 0
Showed figures turns = SomeTurn (λ turn. turn.answer ≡ told.Figures (Ok figures)) turns

-- and members of their view are hosts that there can be
pub record AreShown (figures : Figures) (turns : List GroupTurn) : Type 0 where
  pub showed : Showed figures turns
  pub hosts : AllByRecursion (λ host. host < HOST_LIMIT) figures.view.members

abbrev pub IsCrash : Call → Type 0
IsCrash (calls.Act (events.Crash host)) = Unit {0}
IsCrash other = ⊥

abbrev pub NoneCrashes : List GroupTurn → Type 0
NoneCrashes turns = AllByRecursion (λ turn. ¬ (IsCrash turn.event)) turns

-- ---- what it may do after these turns

-- the host that it is to kill, once enough entries were found, and no further one
abbrev pub IsKill : Option Kill → List GroupTurn → HostNo → Type 0
IsKill None before host = ⊥
IsKill (Some kill) before host =
    (host ≡ kill.host) × SomeTurn (λ turn. Finds kill.after turn.answer) before × NoneCrashes before

-- a host is reported that was down
abbrev pub IsReport : List GroupTurn → Change → Type 0
IsReport before (changes.Report host) = WasDown host.0 before
IsReport before other = ⊥

-- besides, it brings what members send
abbrev pub MayAct : Option Kill → List GroupTurn → Event → Type 0
MayAct kill before (events.Crash host) = IsKill kill before host
MayAct kill before (events.Manage change) = IsReport before change
MayAct kill before (events.View host version) = Unit {0}
MayAct kill before (events.State host position state) = Unit {0}
MayAct kill before (events.Update host from to update) = Unit {0}
MayAct kill before (events.Order host index request) = Unit {0}
MayAct kill before other = ⊥

-- it asks no request
abbrev pub MayTake : Option Kill → List GroupTurn → Call → Type 0
MayTake kill before (calls.Act e) = MayAct kill before e
MayTake kill before (calls.Ask host asked) = ⊥
MayTake kill before other = Unit {0}

-- each of these turns may come after those before it
unfoldable pub AreMonitors : Option Kill → List GroupTurn → List GroupTurn → Type 0
AreMonitors kill before [] = Unit {0}
AreMonitors kill before (turn ∷ turns) = MayTake kill before turn.event × AreMonitors kill (before ++ turn ∷ []) turns

-- ---- the errand

-- no turn has found enough entries yet
abbrev pub NoneFinds : Option Kill → List GroupTurn → Type 0
NoneFinds None turns = Unit {0}
NoneFinds (Some kill) turns = AllByRecursion (λ turn. ¬ (Finds kill.after turn.answer)) turns

abbrev pub HasKilled : Option Kill → List GroupTurn → Type 0
HasKilled None turns = ⊥
HasKilled (Some kill) turns = SomeTurn (λ turn. turn.event ≡ calls.Act (events.Crash kill.host)) turns

-- All turns are a monitor's: at most one crash, of the host that is to be killed, behind a look that found enough entries; no
-- restart; and only hosts are reported that were down in an earlier look. The host is killed exactly where some look found
-- enough entries.
pub record IsMonitored (errand : Errand) (turns : List GroupTurn) : Type 0 where
  pub each : AreMonitors errand.kill [] turns
  pub waits : errand.killed ≡ false → NoneFinds errand.kill turns × NoneCrashes turns
  pub killed : errand.killed ≡ true → HasKilled errand.kill turns

-- behind the old turns came a look at the figures, whatever came then
pub record HasLooked (old new : List GroupTurn) : Type 0 where
  pub turn : GroupTurn
  pub more : List GroupTurn
  pub gained : new ≡ old ++ turn ∷ more
  pub look : turn.event ≡ calls.Figures

-- more turns under its number, none of which kills or finds anything new
pub record GoesOn (old new : GroupPass) : Type 0 where
  pub number : new.number ≡ old.number
  pub mine : List GroupTurn
  pub gained : own_turns new ≡ own_turns old ++ mine
  pub keeps : (errand : Errand) → IsMonitored errand (own_turns old) → IsMonitored errand (own_turns new)

-- ---- the last look

-- there are as many entries as the host that is to be killed waits for
abbrev pub IsEnough : Option Kill → ℕ → Type 0
IsEnough None entries = ⊥
IsEnough (Some kill) entries = kill.after ≤ entries

-- More turns under this number lead to the book, and all of that number's are a monitor's. The host is killed exactly where
-- the journal of the book has enough entries.
pub record HasLastLook (machines : ℕ → Machine) (first : BookPicture) (history : List GroupTurn) (number : ℕ) (errand : Errand) (last : BookPicture) : Type 0 where
  pub more : List GroupTurn
  pub own : AllByRecursion (λ turn. turn.number ≡ number) more
  pub book : IsBook machines first (turns (history ++ more)) last
  pub monitored : IsMonitored errand (turns_by number (history ++ more))
  pub exact : (errand.killed ≡ true) ↔ IsEnough errand.kill (length_of last.core.log)
