-- A core that stands for some group, and an event that may come to it.
use Rattle.std.specs.Prelude.{ℕ}
use Rattle.ft_base.specs.Machine.{Machine}
use Rattle.group_model.specs.declared.events.Event.{Event}
use Rattle.group_model.specs.Agreeing.{Agrees}
use Rattle.group_model.specs.Plain.{Group}
use Rattle.group_core.specs.Cores.{CorePicture, Stands}

-- it stands for some group
pub record IsSome (machines : ℕ → Machine) (core : CorePicture) : Type 0 where
  pub group : Group
  pub stands : Stands machines core group

-- the event agrees with each such group
abbrev pub MayCome : (ℕ → Machine) → CorePicture → Event → Type 0
MayCome machines core e = (g : Group) → Stands machines core g → Agrees (machines g.common.kind) e g
