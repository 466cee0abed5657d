use Rattle.std.specs.Prelude.{is_ok}
use Rattle.outside_links.specs.Wires.{IsNewCaller}
use Rattle.live_rows.proofs.Pushing.{all_pushed}
use Rattle.live_rows.proofs.scenes.callers_of.Goals as goal

pub loop-word-preserved : goal.loop-word-preserved
loop-word-preserved c = all_pushed IsNewCaller (is_ok c.push_back.result) c.loop-word.callers.items c.push_back.new.self.items c.in_ok-caller.caller c.push_back.ensures.items c.loop-word.invariant c.in_ok-caller.ensures
