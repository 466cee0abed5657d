use Rattle.fault_monitor.proofs.members.Member.new.Goals as goal
use Rattle.fault_monitor.proofs.Summing.{nothing_heard}

pub returns : goal.returns
returns c = nothing_heard c.args.interval c.args.timeout
