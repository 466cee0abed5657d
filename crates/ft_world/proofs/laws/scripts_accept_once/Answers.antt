use Rattle.ft_world.proofs.JournalLemmas.{scripts_accept_once}
use Rattle.ft_world.proofs.laws.scripts_accept_once.Goals as goal

pub returns : goal.returns
returns c = scripts_accept_once c.groups_keep_entries.ensures.once
