-- When the core of a group stands for the group that its history tells.
use Rattle.std.specs.Prelude.{◌≡◌, false}
use Rattle.group_core.specs.Cores.{CorePicture, Stands}
use Rattle.group_core.specs.Telling.{plan_of_next}
use Rattle.shipped_servants.specs.Kinds.{machine_of_kind, number_of}
use Rattle.script_groups.specs.Groups.{ScriptGroup, group_of, is_failing}

-- The core stands for it, and its servant is of the group's kind. Its log's keeper fails the next write where it is to fail,
-- and no later one.
pub record IsStanding (core : CorePicture) (g : ScriptGroup) : Type 0 where
  pub core_stands : Stands machine_of_kind core (group_of g)
  pub kind : (group_of g).common.kind ≡ number_of g.kind
  pub plan : core.log.plan ≡ plan_of_next (is_failing g)

-- unless memory was wanted
abbrev pub StandsUnlessPoisoned : CorePicture → ScriptGroup → Type 0
StandsUnlessPoisoned core g = g.poisoned ≡ false → IsStanding core g
