use Rattle.message_log.proofs.JoiningLaws.{stands_with_entry, stands_cut, stands_answered}
use Rattle.message_log.proofs.laws.logs_stand_for_journals.Goals as goal

pub returns-clause-entry : goal.returns-clause-entry
returns-clause-entry c = stands_with_entry c.requests_join.ensures.journal

pub returns-clause-cut : goal.returns-clause-cut
returns-clause-cut c = stands_cut

pub returns-clause-answered : goal.returns-clause-answered
returns-clause-answered c = stands_answered
