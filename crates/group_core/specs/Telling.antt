-- What a core that stands for a plain group tells of it, and what the log's keeper tells of an event.
use Rattle.std.specs.Prelude.{◌≡◌, ℕ, ◌+◌, ◌≤◌, ◌⊎◌, ◌&&◌, not, Bool, false, true, nat_le, if◌then◌else◌, List, [], ◌∷◌, length, slice_get, Option, Some, None}
use Rattle.ft_base.specs.Machine.{Machine}
use Rattle.ft_base.specs.declared.requests.Key.{Key}
use Rattle.ft_base.specs.declared.views.View.{View}
use Rattle.ft_outside.specs.Outside.{next_count}
use Rattle.message_log.specs.Picture.{Picture as LogPicture, length_of}
use Rattle.message_log.specs.Picture as pictures
use Rattle.group_model.specs.declared.events.Event.{Event}
use Rattle.group_model.specs.declared.events.GroupAnswer.{GroupAnswer}
use Rattle.group_model.specs.declared.events.GroupAnswer.TheVariants as answers
use Rattle.group_model.specs.Lean.{IsLean, IsUnrun}
use Rattle.group_model.specs.Events.{shows_fault, turn_of}
use Rattle.group_model.specs.Plain.{Common, Host, Group, state_at}
use Rattle.group_model.specs.Views.{newest, newest_view, view_at}
use Rattle.group_hosts.specs.Hosts.{HostPicture}
use Rattle.group_stands.specs.Replying.{held_reply, retained_reply}
use Rattle.group_hosts.specs.Keeping.{WroteFor, WroteNothing, Wrote}
use Rattle.group_core.specs.Acting.{IsShort}
use Rattle.group_core.specs.Cores.{CorePicture, Stands}

-- the view of a version, where the group still has it
abbrev pub shown_view : Common → ℕ → Option View
shown_view c version = if nat_le c.first_kept version && nat_le version (newest c) then Some (view_at c.views version) else None

-- a host of the core is as the group's host; where it is loaded, its state is that at its position
pub record HostTells (m : Machine) (c : Common) (host : HostPicture) (h : Host) : Type 0 where
  pub up : host.up ≡ h.up
  pub known : host.known ≡ h.known
  pub loaded : host.replica.loaded ≡ h.place.loaded
  pub position : host.replica.position ≡ h.place.position
  pub state : host.replica.loaded ≡ true → host.replica.state ≡ state_at m c h.place.position

-- number, style and kind, journal, time and views are the group's; so is the reply that is held for a key at its time; and
-- each host is as the group's of that number
pub record CoreTells (machines : ℕ → Machine) (core : CorePicture) (g : Group) : Type 0 where
  pub id : core.id ≡ g.common.id
  pub style : core.style ≡ g.common.style
  pub kind : core.kind ≡ g.common.kind
  pub end : length_of core.log ≡ length g.common.journal
  pub mark : core.log.mark ≡ g.common.mark
  pub time : core.log.time ≡ g.common.time
  pub newest : core.log.newest ≡ newest_view g.common
  pub first_kept : core.first_kept ≡ g.common.first_kept
  pub views : (version : ℕ) → pictures.view_at core.log version ≡ shown_view g.common version
  pub replies : (key : Key) → retained_reply core.log key ≡ held_reply (machines g.common.kind) g.common key
  pub hosts : (i : ℕ) (host : HostPicture) → slice_get core.hosts i ≡ Some host → HostTells (machines g.common.kind) g.common host (g.hosts i)

abbrev pub CoresTell : Type 0
CoresTell = (machines : ℕ → Machine) (core : CorePicture) (g : Group) → Stands machines core g → CoreTells machines core g

-- ---- failed writes are counted

-- one more, where the answer shows it
abbrev pub IsCounted : Bool → ℕ → ℕ → Type 0
IsCounted true old new = new ≡ next_count old
IsCounted false old new = old ≤ new

abbrev pub LogFaultsAreCounted : Type 0
LogFaultsAreCounted = (e : Event) (answer : GroupAnswer) (old new : LogPicture) → WroteFor e answer old new → IsCounted (shows_fault answer) old.faults new.faults

-- ---- what was written where memory was wanted

-- Nothing, and the group has the journal of before; or one record, and the group is that in which the request joined unrun.
abbrev pub WroteLeft : (ℕ → Machine) → Group → Event → Group → LogPicture → LogPicture → Type 0
WroteLeft machines g e left old new =
    (WroteNothing old new × (left.common.journal ≡ g.common.journal)) ⊎ (Wrote old new × IsUnrun (machines g.common.kind) g e left)

abbrev pub WantOfMemoryIsTold : Type 0
WantOfMemoryIsTold = (machines : ℕ → Machine) (core later : CorePicture) (g left : Group) (e : Event) → Stands machines core g → Stands machines later left →
    IsLean (machines g.common.kind) g e left → WroteFor e answers.NoMemory core.log later.log → WroteLeft machines g e left core.log later.log

-- ---- a keeper of which it is told whether its next write fails, and that no later one does

-- its plan
abbrev pub plan_of_next : Bool → Option (List Bool)
plan_of_next true = Some (true ∷ [])
plan_of_next false = Some []

-- The turn is that in which the log's write fails as was told. The failure is used up where the answer shows it.
pub record IsAsForetold (m : Machine) (g : Group) (e : Event) (answer : GroupAnswer) (fails : Bool) (now : LogPicture) : Type 0 where
  pub turn : turn_of m g e (shows_fault answer) ≡ turn_of m g e fails
  pub plan : now.plan ≡ plan_of_next (fails && not (shows_fault answer))

-- so it is of every event that has its turn, also of a checkpoint with what is tidied behind it
abbrev pub TurnsAreAsForetold : Type 0
TurnsAreAsForetold = (m : Machine) (g : Group) (e : Event) (answer : GroupAnswer) (fails : Bool) (old new : LogPicture) →
    (turn_of m g e (shows_fault answer)).answer ≡ answer → WroteFor e answer old new → old.plan ≡ plan_of_next fails → IsAsForetold m g e answer fails new

-- where memory was wanted, the servant was called no more often than by that turn
abbrev pub ShortCallsAreAsForetold : Type 0
ShortCallsAreAsForetold = (machines : ℕ → Machine) (core later : CorePicture) (g : Group) (e : Event) (fails : Bool) (before now : ℕ) →
    Stands machines core g → IsShort machines g e later before now → WroteFor e answers.NoMemory core.log later.log → core.log.plan ≡ plan_of_next fails →
    now ≤ before + (turn_of (machines g.common.kind) g e fails).calls
