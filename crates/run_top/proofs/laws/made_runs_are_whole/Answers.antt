use Rattle.run_top.proofs.MadeLemmas.{made_runs_are_whole}
use Rattle.run_top.proofs.laws.made_runs_are_whole.Goals as goal

pub returns : goal.returns
returns c = made_runs_are_whole c.made_scripts_are_read.ensures c.made_scripts_go.ensures
