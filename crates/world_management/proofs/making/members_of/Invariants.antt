use Rattle.std.proofs.Common.{◌≡◌, take}
use Rattle.world_management.proofs.making.members_of.Given as goal

-- the members so far
abbrev pub invariant-loop-number : goal.invariant-loop-number
invariant-loop-number l = l.members ≡ take l.number-index l.numbers
