use Rattle.ft_world.proofs.JournalLemmas.{deposed_do_nothing}
use Rattle.ft_world.proofs.laws.deposed_do_nothing.Goals as goal

pub returns : goal.returns
returns c = deposed_do_nothing c.deposed_append_nothing.ensures c.groups_go_on.ensures.is
