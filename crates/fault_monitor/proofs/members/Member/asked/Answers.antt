use Rattle.fault_monitor.proofs.members.Member.asked.Goals as goal
use Rattle.fault_monitor.specs.Watching.{asked, hears}
use Rattle.fault_monitor.specs.Keeping.{Sums}
use Rattle.fault_monitor.proofs.Summing.{asked_once_more}
use Rattle.std.proofs.Common.{subst, sym, Some}

pub returns : goal.returns
returns c = λ w sums. subst (λ t. Sums (hears (asked c.args.now.0) w) (record c.args.self { last = Some c.args.now; unanswered = Some t })) (sym c.earlier.ensures) (asked_once_more w c.args.self c.args.now sums)
