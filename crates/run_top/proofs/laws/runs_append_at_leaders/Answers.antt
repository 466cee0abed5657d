use Rattle.run_top.proofs.LineLemmas.{runs_append_at_leaders, runs_append_at_leaders_on_links}
use Rattle.run_top.proofs.laws.runs_append_at_leaders.Goals as goal

pub returns-clause-delivered : goal.returns-clause-delivered
returns-clause-delivered c = runs_append_at_leaders c.only_leaders_append.ensures.delivered

pub returns-clause-injected : goal.returns-clause-injected
returns-clause-injected c = runs_append_at_leaders_on_links c.links_append_at_leaders.ensures
