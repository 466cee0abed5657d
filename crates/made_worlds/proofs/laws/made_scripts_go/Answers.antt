use Rattle.made_worlds.proofs.Ending.{made_go}
use Rattle.made_worlds.proofs.laws.made_scripts_go.Goals as goal

pub returns : goal.returns
returns c = made_go (record { go_on = c.groups_go_on.ensures.is; once = c.failures_come_once.ensures.once })
