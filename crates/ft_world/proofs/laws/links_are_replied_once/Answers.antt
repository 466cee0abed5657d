use Rattle.ft_world.proofs.LinkTellingLemmas.{injections_tell_once, links_tell_once}
use Rattle.ft_world.proofs.laws.links_are_replied_once.Goals as goal

pub returns-clause-served : goal.returns-clause-served
returns-clause-served c = links_tell_once c.requests_are_replied_once.ensures.said

pub returns-clause-injected : goal.returns-clause-injected
returns-clause-injected c = injections_tell_once c.requests_are_replied_once.ensures.said
