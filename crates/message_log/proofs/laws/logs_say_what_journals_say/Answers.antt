use Rattle.message_log.proofs.StandingLaws.{admits_as_journal, lends_journal}
use Rattle.message_log.proofs.laws.logs_say_what_journals_say.Goals as goal

pub returns-clause-admits : goal.returns-clause-admits
returns-clause-admits c = admits_as_journal

pub returns-clause-lends : goal.returns-clause-lends
returns-clause-lends c = lends_journal
