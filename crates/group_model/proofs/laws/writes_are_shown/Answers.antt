use Rattle.group_model.proofs.Appending.{only_shown, unshown_same}
use Rattle.group_model.proofs.laws.writes_are_shown.Goals as goal

pub returns-clause-same : goal.returns-clause-same
returns-clause-same c = unshown_same

pub returns-clause-shown : goal.returns-clause-shown
returns-clause-shown c = only_shown
