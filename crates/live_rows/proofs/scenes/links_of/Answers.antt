use Rattle.std.specs.Prelude.{is_ok}
use Rattle.outside_links.specs.Wires.{IsFresh}
use Rattle.live_rows.proofs.Pushing.{all_pushed}
use Rattle.live_rows.proofs.scenes.links_of.Goals as goal

pub loop-one-preserved : goal.loop-one-preserved
loop-one-preserved c = all_pushed IsFresh (is_ok c.push_back.result) c.loop-one.links.items c.push_back.new.self.items c.in_ok-link.link c.push_back.ensures.items c.loop-one.invariant c.in_ok-link.ensures
