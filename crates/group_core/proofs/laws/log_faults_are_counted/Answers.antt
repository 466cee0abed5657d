use Rattle.group_core.proofs.Tells.{faults_counted}
use Rattle.group_core.proofs.laws.log_faults_are_counted.Goals as goal

pub returns : goal.returns
returns c = faults_counted
