use Rattle.std.specs.Prelude.{is_ok}
use Rattle.outside_links.specs.Wires.{IsNewDoor}
use Rattle.live_rows.proofs.Pushing.{all_pushed}
use Rattle.live_rows.proofs.scenes.doors_of.Goals as goal

pub loop-word-preserved : goal.loop-word-preserved
loop-word-preserved c = all_pushed IsNewDoor (is_ok c.push_back.result) c.loop-word.doors.items c.push_back.new.self.items c.in_ok-door.door c.push_back.ensures.items c.loop-word.invariant c.in_ok-door.ensures
