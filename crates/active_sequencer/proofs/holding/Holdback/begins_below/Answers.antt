use Rattle.active_sequencer.proofs.Dropping.{all_stay}
use Rattle.active_sequencer.proofs.holding.Holdback.begins_below.Goals as goal

pub returns-in-Some-clause-sorted : goal.returns-in-Some-clause-sorted
returns-in-Some-clause-sorted c =
    rw (← c.self.view_is) (λ later. all_stay c.args.position c.in-Some.first.now c.self.inside.requests.entries later c.in-Some.ensures.all_from)
