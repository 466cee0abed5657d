use Rattle.group_stands.proofs.Holds.{nothing_held, hold_grown, hold_joined, hold_ran, hold_dropped, hold_nothing, order_held, hold_tells, held_ordered}
use Rattle.group_stands.proofs.holding.holdbacks_go_on.Goals as goal

pub returns-clause-empty : goal.returns-clause-empty
returns-clause-empty c = nothing_held

pub returns-clause-stays : goal.returns-clause-stays
returns-clause-stays c = hold_grown

pub returns-clause-joined : goal.returns-clause-joined
returns-clause-joined c = hold_joined

pub returns-clause-ran : goal.returns-clause-ran
returns-clause-ran c = hold_ran

pub returns-clause-dropped : goal.returns-clause-dropped
returns-clause-dropped c = hold_dropped

pub returns-clause-furthest : goal.returns-clause-furthest
returns-clause-furthest c = hold_nothing

pub returns-clause-held : goal.returns-clause-held
returns-clause-held c = order_held

pub returns-clause-tell : goal.returns-clause-tell
returns-clause-tell c = hold_tells

pub returns-clause-ordered : goal.returns-clause-ordered
returns-clause-ordered c = held_ordered
