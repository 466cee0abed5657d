use Rattle.shared_turns.proofs.Going.{those_left}
use Rattle.shared_turns.proofs.crowds.take_in_all.Goals as goal

pub loop-hand-preserved-then-branch : goal.loop-hand-preserved-then-branch
loop-hand-preserved-then-branch c =
    (c.take_in.ensures, those_left c.args.group.now.lock c.in-Some.hand _ _ c.in-Some.ensures.steps.0 c.loop-hand.invariant.1)

pub loop-hand-preserved : goal.loop-hand-preserved
loop-hand-preserved c =
    (c.take_in.ensures, those_left c.args.group.now.lock c.in-Some.hand _ _ c.in-Some.ensures.steps.0 c.loop-hand.invariant.1)
