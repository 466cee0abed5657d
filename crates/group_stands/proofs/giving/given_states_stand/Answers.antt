use Rattle.group_stands.proofs.Gives.{given_is_state, given_loads, given_leads}
use Rattle.group_stands.proofs.giving.given_states_stand.Goals as goal

pub returns-clause-state : goal.returns-clause-state
returns-clause-state c = given_is_state c.replies_are_given.ensures.states

pub returns-clause-loaded : goal.returns-clause-loaded
returns-clause-loaded c = given_loads

pub returns-clause-updated : goal.returns-clause-updated
returns-clause-updated c = given_leads c.replies_are_given.ensures.states
