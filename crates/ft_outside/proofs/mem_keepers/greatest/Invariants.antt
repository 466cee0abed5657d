use Rattle.std.proofs.Common.{◌≡◌, take}
use Rattle.std.specs.Prelude.{fold, max}
use Rattle.ft_outside.proofs.mem_keepers.greatest.Given as goal

-- the greatest so far
abbrev pub invariant-loop-number : goal.invariant-loop-number
invariant-loop-number l = l.most ≡ fold max 0 (take l.number-index l.numbers)
