use Rattle.group_stands.proofs.Admits.{log_admits}
use Rattle.group_stands.proofs.telling.logs_admit.Goals as goal

pub returns : goal.returns
returns c = log_admits c.logs_say_what_journals_say.ensures.admits
