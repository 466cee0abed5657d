use Rattle.run_top.proofs.LineLemmas.{runs_keep_entries}
use Rattle.run_top.proofs.laws.runs_keep_entries.Goals as goal

pub returns : goal.returns
returns c = runs_keep_entries c.scripts_keep_entries.ensures
