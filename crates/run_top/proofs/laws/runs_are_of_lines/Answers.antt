use Rattle.run_top.proofs.LineLemmas.{runs_are_of_lines}
use Rattle.run_top.proofs.laws.runs_are_of_lines.Goals as goal

pub returns : goal.returns
returns c = runs_are_of_lines
