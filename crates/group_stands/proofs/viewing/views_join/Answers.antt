use Rattle.group_stands.proofs.NextViews.{next_logged, log_viewed, replica_viewed}
use Rattle.group_stands.proofs.viewing.views_join.Goals as goal

pub returns-clause-logged : goal.returns-clause-logged
returns-clause-logged c = next_logged c.spares_join.ensures.hosts

pub returns-clause-log : goal.returns-clause-log
returns-clause-log c = log_viewed c.spares_join.ensures.members

pub returns-clause-replica : goal.returns-clause-replica
returns-clause-replica c = replica_viewed
