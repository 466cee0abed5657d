use Rattle.std.proofs.Common.{◌≡◌, length}
use Rattle.group_stands.specs.Holding.{orders_from}
use Rattle.active_sequencer.proofs.holding.Holdback.drop_below.Given as goal

-- what is to be kept
abbrev pub invariant-loop-self : goal.invariant-loop-self
invariant-loop-self l = orders_from l.position l.self ≡ orders_from l.position l.fn.self

abbrev pub decreases-loop-self : goal.decreases-loop-self
decreases-loop-self l = length l.self
