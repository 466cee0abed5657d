-- The groups of a world as its code keeps them.
use Rattle.std.specs.Prelude.{◌≡◌, ℕ, List, Option, Some, slice_get, slice_set}
use Rattle.group_model.specs.declared.events.Event.{Event}
use Rattle.group_model.specs.declared.events.GroupAnswer.{GroupAnswer}
use Rattle.script_groups.specs.Acting.{IsActed}
use Rattle.script_groups.specs.Groups.{ScriptGroup}

-- in the order in which they were made, how many there is room for, and the name for which the map of names has room
pub record GroupList : Type 0 where
  pub items : List ScriptGroup
  pub room : ℕ
  pub next : Option (List ℕ)

-- the group at a place has had an event, or was poisoned in it
pub record IsActedAt (gs : List ScriptGroup) (place : ℕ) (e : Event) (answer : GroupAnswer) (later : List ScriptGroup) (before now : ℕ) : Type 0 where
  pub group : ScriptGroup
  pub there : slice_get gs place ≡ Some group
  pub after : ScriptGroup
  pub is : later ≡ slice_set gs place after
  pub acted : IsActed group e answer after before now
