use Rattle.ft_base.proofs.laws.requests_join.Goals as goal
use Rattle.ft_base.proofs.Journal.{after-push, reply_at-push_new, reply_at-push_old, replies-push, AllFit-push, last_place-push}
use Rattle.ft_base.proofs.Once.{AtMostOnce-push, IsJournal-push}

pub returns-clause-state : goal.returns-clause-state
returns-clause-state c = after-push

pub returns-clause-reply : goal.returns-clause-reply
returns-clause-reply c = reply_at-push_new

pub returns-clause-stay : goal.returns-clause-stay
returns-clause-stay c = reply_at-push_old

pub returns-clause-replies : goal.returns-clause-replies
returns-clause-replies c = replies-push

pub returns-clause-fit : goal.returns-clause-fit
returns-clause-fit c = AllFit-push

pub returns-clause-place : goal.returns-clause-place
returns-clause-place c = last_place-push

pub returns-clause-once : goal.returns-clause-once
returns-clause-once c = AtMostOnce-push

pub returns-clause-journal : goal.returns-clause-journal
returns-clause-journal c = IsJournal-push
