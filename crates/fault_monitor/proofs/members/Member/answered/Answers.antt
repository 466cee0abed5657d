use Rattle.fault_monitor.proofs.members.Member.answered.Goals as goal
use Rattle.fault_monitor.proofs.Summing.{answered_now}

pub returns : goal.returns
returns c = λ w sums. answered_now w c.args.self sums
