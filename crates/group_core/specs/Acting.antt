-- What an event leaves of a group's core.
use Rattle.std.specs.Prelude.{◌≡◌, ℕ, ◌+◌, ◌≤◌, true, false}
use Rattle.ft_base.specs.Machine.{Machine}
use Rattle.group_model.specs.declared.events.Event.{Event}
use Rattle.group_model.specs.declared.events.GroupAnswer.{GroupAnswer}
use Rattle.group_model.specs.declared.events.GroupAnswer.TheVariants.{NoMemory}
use Rattle.group_model.specs.Events.{turn_of, after_event, shows_fault}
use Rattle.group_model.specs.Lean.{IsLean}
use Rattle.group_model.specs.Plain.{Group}
use Rattle.group_core.specs.Cores.{CorePicture, Stands}

-- The core stands for the plain group after the event; the answer is the plain group's, and so is the number of
-- servant calls.
pub record IsTaken (machines : ℕ → Machine) (g : Group) (e : Event) (answer : GroupAnswer) (core : CorePicture) (before now : ℕ) : Type 0 where
  pub stands : Stands machines core (after_event (machines g.common.kind) g e (shows_fault answer))
  pub told : (turn_of (machines g.common.kind) g e (shows_fault answer)).answer ≡ answer
  pub calls : now ≡ before + (turn_of (machines g.common.kind) g e (shows_fault answer)).calls

-- Memory was wanted: the core stands for a group that this may leave, and the servant was called no more often
-- than by the event's turn; where no request joined, no more often than by that in which the log's write fails.
pub record IsShort (machines : ℕ → Machine) (g : Group) (e : Event) (core : CorePicture) (before now : ℕ) : Type 0 where
  pub left : Group
  pub lean : IsLean (machines g.common.kind) g e left
  pub stands : Stands machines core left
  pub calls : now ≤ before + (turn_of (machines g.common.kind) g e false).calls
  pub unwritten : left.common.journal ≡ g.common.journal → now ≤ before + (turn_of (machines g.common.kind) g e true).calls

-- The event had the plain group's turn, in which the log's write fails where the answer shows it; or memory was
-- wanted.
abbrev pub IsActed : (ℕ → Machine) → Group → Event → GroupAnswer → CorePicture → ℕ → ℕ → Type 0
IsActed machines g e NoMemory core before now = IsShort machines g e core before now
IsActed machines g e answer core before now = IsTaken machines g e answer core before now
