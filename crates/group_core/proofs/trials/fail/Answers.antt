use Rattle.group_core.proofs.Trying.{opened}
use Rattle.group_core.proofs.trials.fail.Goals as goal

pub returns : goal.returns
returns g c = opened g.S.Servant.machine c.fail_next.new.self c.requires.group (c.fail_next.ensures.stands c.requires.group c.requires.stands)
