-- The replies of the group for which a core stands.
use Rattle.std.proofs.Common.{ℕ, refl}
use Rattle.ft_base.specs.Machine.{Machine}
use Rattle.group_core.specs.Cores.{CorePicture, Stands}
use Rattle.group_model.specs.Plain.{Group}
use Rattle.live_top.specs.Texts.{AreHeld, held_replies}

pub held : (machines : ℕ → Machine) (core : CorePicture) (g : Group) → Stands machines core g → AreHeld machines core (held_replies (machines g.common.kind) g)
held machines core g stands = record { group = g; stands = stands; replies = refl }
