use Rattle.script_groups.specs.Groups.{group_of, machine_of}
use Rattle.script_groups.proofs.Takers.{takers_inside}
use Rattle.script_groups.proofs.laws.takers_may_take.Goals as goal

pub returns-clause-inside : goal.returns-clause-inside
returns-clause-inside c = takers_inside c.takers_may_take.ensures.checkpoint

pub returns-clause-checkpoint : goal.returns-clause-checkpoint
returns-clause-checkpoint c = λ g host clock sound takes. (c.takers_may_take.ensures.checkpoint (machine_of g) (group_of g) host clock sound takes).agrees

pub returns-clause-update : goal.returns-clause-update
returns-clause-update c = λ g host sound sends. (c.takers_may_take.ensures.update (machine_of g) (group_of g) host sound sends).agrees
