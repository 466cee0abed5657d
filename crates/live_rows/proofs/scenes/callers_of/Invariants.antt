use Rattle.std.specs.List.{All}
use Rattle.outside_links.specs.Wires.{IsNewCaller}
use Rattle.live_rows.proofs.scenes.callers_of.Given as goal

abbrev pub invariant-loop-word : goal.invariant-loop-word
invariant-loop-word l = All IsNewCaller l.callers.items
