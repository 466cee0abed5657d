use Rattle.group_core.proofs.Stepping.{acts_are_steps}
use Rattle.group_core.proofs.laws.acts_are_steps.Goals as goal

pub returns : goal.returns
returns c = acts_are_steps
