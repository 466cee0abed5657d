use Rattle.std.proofs.Common.{ℕ, List, subst}
use Rattle.world_monitors.specs.Subscribing.{subscribe_line}
use Rattle.world_turns.specs.Answers.{Acts}
use Rattle.ft_world.proofs.acts.subscribe_by.Goals as goal

pub returns : goal.returns
returns c = λ calls.
    subst (λ (name : List ℕ). Acts (subscribe_line c.args.world.now name c.args.filter.now) c.subscribe_line.result c.args.world.now c.subscribe_line.new.world calls calls)
    c.in_ok-subscriber.ensures (c.subscribe_line.ensures calls)
