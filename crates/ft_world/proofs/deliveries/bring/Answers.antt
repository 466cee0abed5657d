use Rattle.ft_world.proofs.ArriveLemmas.{may_come}
use Rattle.ft_world.proofs.deliveries.bring.Goals as goal

pub bring_at-requires-clause-may : goal.bring_at-requires-clause-may
bring_at-requires-clause-may g c = λ h there.
    let found = c.in-There.ensures in
    may_come c.args.world.now c.args.group c.args.out c.in-There.place found.0 h c.requires.comes found.1 found.2 there
