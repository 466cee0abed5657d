use Rattle.std.proofs.Common.{◌≡◌, take}
use Rattle.giop_stream.specs.Tallies.{briefs}
use Rattle.giop_stream.proofs.begun.tally_of.Given as goal

abbrev pub invariant-loop-begun : goal.invariant-loop-begun
invariant-loop-begun l = l.tally ≡ briefs (take l.begun-index l.items)
