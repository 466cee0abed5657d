use Rattle.group_stands.proofs.Goes.{log_beside, log_joined, log_checkpointed}
use Rattle.group_stands.proofs.Opens.{fresh_stands}
use Rattle.group_stands.proofs.going.logs_go_on.Goals as goal

pub returns-clause-fresh : goal.returns-clause-fresh
returns-clause-fresh c = fresh_stands c.logs_stand_for_journals.ensures.fresh

pub returns-clause-beside : goal.returns-clause-beside
returns-clause-beside c = log_beside

pub returns-clause-joined : goal.returns-clause-joined
returns-clause-joined c = log_joined c.logs_stand_for_journals.ensures.entry c.requests_join.ensures.fit c.requests_join.ensures.stay

pub returns-clause-checkpointed : goal.returns-clause-checkpointed
returns-clause-checkpointed c = log_checkpointed c.logs_stand_for_journals.ensures.cut
