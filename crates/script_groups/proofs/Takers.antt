-- The host that takes a group's checkpoints is one that there can be.
use Rattle.std.proofs.Common.{◌≡◌, ◌<◌, Option, Some, None, refl}
use Rattle.std.specs.Prelude.{IfSome}
use Rattle.ft_base.specs.declared.limits.TheConstants.{HOST_LIMIT}
use Rattle.ft_base.specs.declared.numbers.HostNo.{HostNo}
use Rattle.group_model.specs.Takers.{TakersMayTake}
use Rattle.script_groups.specs.Groups.{group_of, machine_of}
use Rattle.script_groups.specs.Laws.{TakersAreInside}
use Rattle.script_groups.specs.Takers.{checkpoint_taker}

pub takers_inside : TakersMayTake → TakersAreInside
takers_inside may g sound = go (checkpoint_taker g) refl where
  go : (o : Option HostNo) → checkpoint_taker g ≡ o → IfSome o (λ host. host.0 < HOST_LIMIT)
  go None e = tt
  go (Some host) e = (may (machine_of g) (group_of g) host (record { 0 = 0 }) sound e).agrees.host
