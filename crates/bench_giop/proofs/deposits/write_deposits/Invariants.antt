use Rattle.bench_giop.specs.Deposits.{IsDeposit}
use Rattle.bench_giop.proofs.deposits.write_deposits.Given as goal

abbrev pub invariant-loop-id : goal.invariant-loop-id
invariant-loop-id l = IsDeposit l.message
