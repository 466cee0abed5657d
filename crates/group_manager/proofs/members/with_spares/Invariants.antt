use Rattle.std.proofs.Common.{◌≡◌, take}
use Rattle.std.specs.List.{fold}
use Rattle.group_model.specs.Spares.{with_spare}
use Rattle.group_model.specs.Views.{without}
use Rattle.group_manager.proofs.members.with_spares.Given as goal

-- the spares so far, but the host, have come
abbrev pub invariant-loop-spare : goal.invariant-loop-spare
invariant-loop-spare l = l.members ≡ fold with_spare l.fn.members (without l.host.0 (take l.spare-index l.spare-items))
