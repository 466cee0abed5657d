use Rattle.group_model.specs.Plain.{start_of}
use Rattle.failover_engine.proofs.catching.catch_up.Goals as goal

pub returns-in-Ok-clause-caught_up : goal.returns-in-Ok-clause-caught_up
returns-in-Ok-clause-caught_up g c = λ common h log replica opening.
    let begun = c.in_default.ensures.begun common h.place log replica opening in
    let at = c.in-Ok.ensures.ran common (start_of common h.place) log begun.0 begun.1 begun.2 in
    record { log_stands = at.log_stands; replica_stands = at.replica_stands; loaded = begun.1; first = at.first; last = at.last }

pub returns-in-Ok-clause-number : goal.returns-in-Ok-clause-number
returns-in-Ok-clause-number g c = λ common h log replica opening.
    let begun = c.in_default.ensures.begun common h.place log replica opening in
    c.in-Ok.ensures.number common (start_of common h.place) log begun.0
