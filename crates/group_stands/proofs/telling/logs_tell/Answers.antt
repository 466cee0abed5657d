use Rattle.group_stands.proofs.Tells.{tells, lends, has_entries}
use Rattle.group_stands.proofs.telling.logs_tell.Goals as goal

pub returns-clause-tell : goal.returns-clause-tell
returns-clause-tell c = tells

pub returns-clause-lend : goal.returns-clause-lend
returns-clause-lend c = lends c.logs_say_what_journals_say.ensures.lends

pub returns-clause-have : goal.returns-clause-have
returns-clause-have c = has_entries c.logs_say_what_journals_say.ensures.lends
