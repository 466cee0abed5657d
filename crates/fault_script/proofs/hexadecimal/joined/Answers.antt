use Rattle.std.proofs.Common.{refl}
use Rattle.fault_script.proofs.LaneLemmas.{joined_at}
use Rattle.fault_script.proofs.hexadecimal.joined.Goals as goal

pub returns-clause-len : goal.returns-clause-len
returns-clause-len c = refl

pub returns-clause-lanes : goal.returns-clause-lanes
returns-clause-lanes c k h = joined_at c.args.values k c.fits-values.0 h
