use Rattle.std.proofs.Common.{◌≡◌, ℕ, ◌<◌}
use Rattle.std.specs.Prelude.{slice_get}
use Rattle.disk_group.proofs.stops.are_same.Given as goal

-- the same so far
abbrev pub invariant-loop-index : goal.invariant-loop-index
invariant-loop-index g l = (i : ℕ) → i < l.index → slice_get (g.K.Keeper.records l.one) i ≡ slice_get (g.K.Keeper.records l.other) i
