use Rattle.group_model.proofs.Appending.{new_accepted, only_leaders}
use Rattle.group_model.proofs.laws.leaders_append.Goals as goal

pub returns-clause-only : goal.returns-clause-only
returns-clause-only c = only_leaders

pub returns-clause-accepted : goal.returns-clause-accepted
returns-clause-accepted c = new_accepted
