use Rattle.disk_group.proofs.Going.{may_take}
use Rattle.disk_group.proofs.groups.checkpoint.Goals as goal

pub taker-requires : goal.taker-requires
taker-requires g c = (c.requires.group, c.requires.stands)
