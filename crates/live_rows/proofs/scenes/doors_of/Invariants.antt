use Rattle.std.specs.List.{All}
use Rattle.outside_links.specs.Wires.{IsNewDoor}
use Rattle.live_rows.proofs.scenes.doors_of.Given as goal

abbrev pub invariant-loop-word : goal.invariant-loop-word
invariant-loop-word l = All IsNewDoor l.doors.items
