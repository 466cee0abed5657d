use Rattle.run_top.proofs.MadeLemmas.{made_runs_are_runs}
use Rattle.run_top.proofs.laws.made_runs_are_runs.Goals as goal

pub returns : goal.returns
returns c = made_runs_are_runs
