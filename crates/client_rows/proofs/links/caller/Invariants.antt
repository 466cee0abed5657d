use Rattle.std.specs.List.{All}
use Rattle.outside_links.specs.Wires.{IsFresh}
use Rattle.client_rows.proofs.links.caller.Given as goal

abbrev pub invariant-loop-word : goal.invariant-loop-word
invariant-loop-word l = All IsFresh l.links.items
