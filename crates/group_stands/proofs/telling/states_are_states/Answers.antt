use Rattle.group_stands.proofs.Replicas.{state_is}
use Rattle.group_stands.proofs.telling.states_are_states.Goals as goal

pub returns-clause-states : goal.returns-clause-states
returns-clause-states c = state_is c.replies_are_given.ensures.states

pub returns-clause-given : goal.returns-clause-given
returns-clause-given c = λ machines stays gives common log s i entry at.
    c.replies_are_given.ensures.given (machines common.kind) (stays common.kind) (gives common.kind) common.opening common.journal i entry s.sound.opens s.sound.journal.fit at
