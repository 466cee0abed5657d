use Rattle.std.proofs.Common.{length, ◌∙◌, arith, length-drop, ap}
use Rattle.ft_outside.specs.Gains.{gains_more}
use Rattle.ft_outside.proofs.wholes.write_all.Goals as goal

pub loop-done-preserved : goal.loop-done-preserved
loop-done-preserved g c = (
  omega (arith, c.in-Took.ensures.1, ap length c.behind.ensures, length-drop c.loop-done.done c.args.text.now),
  gains_more _ _ _ c.args.text.now c.behind.result.now c.loop-done.done c.in-Took.count c.behind.ensures c.in-Took.ensures.2 c.loop-done.invariant.1,
  c.in-Took.ensures.3 ∙ c.loop-done.invariant.2,
)
