use Rattle.shared_group.proofs.Calm.{counts}
use Rattle.shared_group.proofs.traces.act_counted.Goals as goal

pub returns-clause-counts : goal.returns-clause-counts
returns-clause-counts g c = counts c.log_faults_are_counted.ensures c.args.event c.act.result c.args.core.now.log c.act.new.self.log c.act.ensures.wrote
