use Rattle.script_groups.proofs.Going.{calls_counted, calls_go_on, none_called}
use Rattle.script_groups.proofs.laws.calls_are_counted.Goals as goal

pub returns-clause-none : goal.returns-clause-none
returns-clause-none c = none_called

pub returns-clause-go_on : goal.returns-clause-go_on
returns-clause-go_on c = calls_go_on

pub returns-clause-counted : goal.returns-clause-counted
returns-clause-counted c = calls_counted c.calls_are_counted.ensures
