use Rattle.group_model.proofs.Taking.{inside, takers_may, updaters_may}
use Rattle.group_model.proofs.laws.takers_may_take.Goals as goal

pub returns-clause-inside : goal.returns-clause-inside
returns-clause-inside c = λ m g host sound takes. inside m g sound host takes

pub returns-clause-checkpoint : goal.returns-clause-checkpoint
returns-clause-checkpoint c = λ m g host clock sound takes. takers_may m g sound host clock takes

pub returns-clause-update : goal.returns-clause-update
returns-clause-update c = λ m g host sound sends. updaters_may m g sound host sends
