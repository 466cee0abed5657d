use Rattle.ft_world.proofs.ReplyOnceLemmas.{deliveries_tell_once, entries_are_replied}
use Rattle.ft_world.proofs.laws.requests_are_replied_once.Goals as goal

pub returns-clause-said : goal.returns-clause-said
returns-clause-said c = entries_are_replied c.entries_are_replied.ensures c.groups_go_on.ensures.is

pub returns-clause-told : goal.returns-clause-told
returns-clause-told c = deliveries_tell_once (entries_are_replied c.entries_are_replied.ensures c.groups_go_on.ensures.is)
