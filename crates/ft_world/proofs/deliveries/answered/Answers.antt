use Rattle.std.proofs.Common.{sym, subst}
use Rattle.world_turns.specs.Answers.{Does}
use Rattle.ft_world.specs.Delivering.{answered}
use Rattle.ft_world.specs.declared.asking.Said.{Said}
use Rattle.ft_world.proofs.deliveries.answered.Goals as goal

pub returns-in-Reply : goal.returns-in-Reply
returns-in-Reply g c =
    subst (λ (said : Said). Does (answered c.args.world.now c.args.number c.args.asker said) c.reply.result c.reply.new.world c.args.steps.now c.args.steps.now)
    (sym c.in-Reply.is) (c.reply.ensures c.args.number c.args.steps.now)

pub returns-in-Stopped : goal.returns-in-Stopped
returns-in-Stopped g c =
    subst (λ (said : Said). Does (answered c.args.world.now c.args.number c.args.asker said) c.stop.result c.stop.new.world c.args.steps.now c.stop.new.steps)
    (sym c.in-Stopped.is) (c.stop.ensures c.args.number)
