use Rattle.run_top.proofs.LineLemmas.{runs_accept_once}
use Rattle.run_top.proofs.laws.runs_accept_once.Goals as goal

pub returns : goal.returns
returns c = runs_accept_once c.scripts_accept_once.ensures
