use Rattle.ft_base.proofs.laws.replies_are_given.Goals as goal
use Rattle.ft_base.proofs.Journal.{reply_at-replies, reply_at-given, after-is_state}

pub returns-clause-listed : goal.returns-clause-listed
returns-clause-listed c = reply_at-replies

pub returns-clause-given : goal.returns-clause-given
returns-clause-given c = reply_at-given

pub returns-clause-states : goal.returns-clause-states
returns-clause-states c = after-is_state
