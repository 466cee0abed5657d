use Rattle.std.proofs.Common.{ℕ, length}
use Rattle.giop_stream.specs.Tallies.{Left}
use Rattle.giop_stream.proofs.tallies.Tally.left_over.Given as goal

abbrev pub invariant-parts : goal.invariant-parts
invariant-parts l = (n : ℕ) → Left l.fn.self l.fn.bytes n → Left l.self l.rest n

abbrev pub decreases-parts : goal.decreases-parts
decreases-parts l = length l.rest
