use Rattle.group_stands.proofs.Replicas.{replica_stays, replica_joined, replica_ran, blank_stands, replica_loaded, checkpoint_is_state, replica_rebased}
use Rattle.group_stands.proofs.Opens.{opened_stands}
use Rattle.group_stands.proofs.going.replicas_go_on.Goals as goal

pub returns-clause-stays : goal.returns-clause-stays
returns-clause-stays c = replica_stays

pub returns-clause-joined : goal.returns-clause-joined
returns-clause-joined c = replica_joined

pub returns-clause-ran : goal.returns-clause-ran
returns-clause-ran c = replica_ran

pub returns-clause-blank : goal.returns-clause-blank
returns-clause-blank c = blank_stands

pub returns-clause-loaded : goal.returns-clause-loaded
returns-clause-loaded c = replica_loaded

pub returns-clause-state : goal.returns-clause-state
returns-clause-state c = checkpoint_is_state c.replies_are_given.ensures.states

pub returns-clause-rebased : goal.returns-clause-rebased
returns-clause-rebased c = replica_rebased

pub returns-clause-opened : goal.returns-clause-opened
returns-clause-opened c = opened_stands
