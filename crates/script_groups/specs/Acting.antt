-- What an event leaves of a group of a script.
use Rattle.std.specs.Prelude.{◌≡◌, ℕ, ◌+◌, ◌≤◌, true, false, List}
use Rattle.std.specs.List.{AllByRecursion}
use Rattle.group_model.specs.Agreeing.{Agrees, IsSound}
use Rattle.group_model.specs.declared.events.Event.{Event}
use Rattle.group_model.specs.declared.events.GroupAnswer.{GroupAnswer}
use Rattle.group_model.specs.declared.events.GroupAnswer.TheVariants.{NoMemory}
use Rattle.script_groups.specs.Groups.{ScriptGroup, machine_of, group_of, turn, acted}

-- the event may come to the group
abbrev pub MayCome : ScriptGroup → Event → Type 0
MayCome g e = Agrees (machine_of g) e (group_of g)

-- its plain group is sound
abbrev pub IsSoundGroup : ScriptGroup → Type 0
IsSoundGroup g = IsSound (machine_of g) (group_of g)

-- memory was not wanted in it
abbrev pub IsKept : ScriptGroup → Type 0
IsKept g = g.poisoned ≡ false

abbrev pub AreKept : List ScriptGroup → Type 0
AreKept gs = AllByRecursion IsKept gs

abbrev pub poisoned : ScriptGroup → ScriptGroup
poisoned g = record g { poisoned = true }

-- the group has had the event; the answer and the servant calls are its turn's
pub record HasTurn (g : ScriptGroup) (e : Event) (answer : GroupAnswer) (later : ScriptGroup) (before now : ℕ) : Type 0 where
  pub is : later ≡ acted g e
  pub told : (turn g e).answer ≡ answer
  pub calls : now ≡ before + (turn g e).calls

-- where memory was wanted, the servant was called no more often
pub record IsShort (g : ScriptGroup) (e : Event) (later : ScriptGroup) (before now : ℕ) : Type 0 where
  pub is : later ≡ poisoned g
  pub calls : now ≤ before + (turn g e).calls

abbrev pub IsActed : ScriptGroup → Event → GroupAnswer → ScriptGroup → ℕ → ℕ → Type 0
IsActed g e NoMemory later before now = IsShort g e later before now
IsActed g e answer later before now = HasTurn g e answer later before now
