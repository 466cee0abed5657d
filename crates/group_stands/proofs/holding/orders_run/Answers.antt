use Rattle.group_stands.proofs.Holds.{order_fits, order_runs}
use Rattle.group_stands.proofs.holding.orders_run.Goals as goal

pub returns-clause-fit : goal.returns-clause-fit
returns-clause-fit c = order_fits

pub returns-clause-run : goal.returns-clause-run
returns-clause-run c = order_runs
