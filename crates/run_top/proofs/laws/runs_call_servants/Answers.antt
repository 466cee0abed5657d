use Rattle.run_top.proofs.LineLemmas.{runs_call_servants}
use Rattle.run_top.proofs.laws.runs_call_servants.Goals as goal

pub returns : goal.returns
returns c = runs_call_servants c.servants_are_called.ensures
