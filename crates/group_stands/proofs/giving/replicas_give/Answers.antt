use Rattle.group_stands.proofs.Gives.{gives_state, gives_update, leads_on}
use Rattle.group_stands.proofs.giving.replicas_give.Goals as goal

pub returns-clause-state : goal.returns-clause-state
returns-clause-state c = gives_state

pub returns-clause-update : goal.returns-clause-update
returns-clause-update c = gives_update

pub returns-clause-leads : goal.returns-clause-leads
returns-clause-leads c = leads_on
