use Rattle.run_top.proofs.LineLemmas.{runs_reply_once, runs_tell_once, runs_tell_once_on_links}
use Rattle.run_top.proofs.laws.runs_tell_once.Goals as goal

pub returns-clause-delivered : goal.returns-clause-delivered
returns-clause-delivered c = runs_tell_once c.requests_are_replied_once.ensures.told

pub returns-clause-injected : goal.returns-clause-injected
returns-clause-injected c = runs_tell_once_on_links c.links_are_replied_once.ensures.injected

pub returns-clause-replied : goal.returns-clause-replied
returns-clause-replied c = runs_reply_once c.replies_are_of_entries.ensures
