use Rattle.ft_world.proofs.JournalLemmas.{scripts_keep_entries}
use Rattle.ft_world.proofs.laws.scripts_keep_entries.Goals as goal

pub returns : goal.returns
returns c = scripts_keep_entries c.groups_keep_entries.ensures.grow c.groups_keep_entries.ensures.replies
