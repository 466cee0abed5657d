use Rattle.group_stands.proofs.Replicas.{entry_run}
use Rattle.group_stands.proofs.going.entries_run.Goals as goal

pub returns : goal.returns
returns c = entry_run c.logs_say_what_journals_say.ensures.lends c.logs_stand_for_journals.ensures.answered
