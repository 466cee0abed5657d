use Rattle.std.specs.List.{All}
use Rattle.outside_links.specs.Wires.{IsFresh}
use Rattle.live_rows.proofs.scenes.links_of.Given as goal

abbrev pub invariant-loop-one : goal.invariant-loop-one
invariant-loop-one l = All IsFresh l.links.items
