use Rattle.std.proofs.Common.{sym, subst}
use Rattle.fault_script.specs.declared.lines.Line.{Line}
use Rattle.ft_world.specs.Acts.{act_first}
use Rattle.world_turns.specs.Answers.{Acts}
use Rattle.ft_world.proofs.acts.act_first.Goals as goal

pub returns-in-Subscribe : goal.returns-in-Subscribe
returns-in-Subscribe g c = record {
  did = subst (λ (line : Line). Acts (act_first c.args.world.now line) c.subscribe_by.result c.args.world.now c.subscribe_by.new.world c.args.steps.now c.args.steps.now)
      (sym c.in-Subscribe.is) (c.subscribe_by.ensures c.args.steps.now);
}
