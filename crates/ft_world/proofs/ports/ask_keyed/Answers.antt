use Rattle.std.proofs.Common.{Option, sym, subst}
use Rattle.script_groups.specs.Groups.{ScriptGroup, Placed}
use Rattle.ft_world.specs.Links.{port_turn}
use Rattle.ft_world.specs.Passes.{Counts, lines_at}
use Rattle.ft_world.proofs.TurnLemmas.{IsTurn}
use Rattle.ft_world.proofs.ports.ask_keyed.Goals as goal

pub returns-in-Some-clause-turn : goal.returns-in-Some-clause-turn
returns-in-Some-clause-turn g c =
    let group = c.in-Some.ensures.0 in
    subst (λ (o : Option (Placed ScriptGroup)). IsTurn (port_turn c.args.world.now c.args.host.0 c.args.asked o) c.ask_at.result c.ask_at.new.world
    (lines_at c.args.printed.now.lines c.args.printed.now.orders) (lines_at c.ask_at.new.printed.lines c.ask_at.new.printed.orders))
    (sym c.in-Some.ensures.1) (c.ask_at.ensures.turn group c.in-Some.ensures.2)

pub returns-in-Some-clause-counts : goal.returns-in-Some-clause-counts
returns-in-Some-clause-counts g c =
    let group = c.in-Some.ensures.0 in
    subst (λ (o : Option (Placed ScriptGroup)). Counts (port_turn c.args.world.now c.args.host.0 c.args.asked o) c.ask_at.result c.args.steps.now c.ask_at.new.steps)
    (sym c.in-Some.ensures.1) (c.ask_at.ensures.counts group c.in-Some.ensures.2)
