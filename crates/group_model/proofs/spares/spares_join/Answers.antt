use Rattle.group_model.proofs.Viewing.{spares_join, spares_are_hosts}
use Rattle.group_model.proofs.spares.spares_join.Goals as goal

pub returns-clause-members : goal.returns-clause-members
returns-clause-members c = spares_join

pub returns-clause-hosts : goal.returns-clause-hosts
returns-clause-hosts c = spares_are_hosts
