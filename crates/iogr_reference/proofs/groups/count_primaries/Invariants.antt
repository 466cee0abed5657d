use Rattle.std.proofs.Common.{◌≡◌, take}
use Rattle.iogr_reference.specs.Groups.{primaries}
use Rattle.iogr_reference.proofs.groups.count_primaries.Given as goal

-- the primaries so far
abbrev pub invariant-loop-mark : goal.invariant-loop-mark
invariant-loop-mark l = l.count ≡ primaries (take l.mark-index l.marks)
