use Rattle.group_stands.proofs.Gives.{state_stays, update_stays}
use Rattle.group_stands.proofs.giving.what_is_given_stays.Goals as goal

pub returns-clause-state : goal.returns-clause-state
returns-clause-state c = state_stays

pub returns-clause-update : goal.returns-clause-update
returns-clause-update c = update_stays
