use Rattle.std.proofs.Common.{arith}
use Rattle.made_scripts.proofs.LineLemmas.{client_is}
use Rattle.made_scripts.proofs.lines.client.Goals as goal

pub returns-in-0 : goal.returns-in-0
returns-in-0 c = client_is c.args.number 0 c.in-0.is (omega arith)

pub returns-in-1 : goal.returns-in-1
returns-in-1 c = client_is c.args.number 1 c.in-1.is (omega arith)

pub returns-in-2 : goal.returns-in-2
returns-in-2 c = client_is c.args.number 2 c.in-2.is (omega arith)

pub returns-in_default : goal.returns-in_default
returns-in_default c = client_is c.args.number 3 (omega arith) (omega arith)
