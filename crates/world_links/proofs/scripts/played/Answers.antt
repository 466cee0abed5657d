use Rattle.std.proofs.Common.{arith}
use Rattle.world_links.proofs.scripts.played.Goals as goal

pub loop-line-preserved : goal.loop-line-preserved
loop-line-preserved g c = record {
  kept = c.in_ok-act_text.ensures.kept;
  few = omega (arith, c.loop-line.invariant.few, c.if-count-eq-LINES.false);
  acted = c.in_ok-act_text.ensures.acted c.loop-line.count c.loop-line.invariant.acted;
}
