use Rattle.fault_script.proofs.LaneLemmas.{values_at, length-value_lanes}
use Rattle.fault_script.proofs.hexadecimal.values.Goals as goal

pub returns-clause-len : goal.returns-clause-len
returns-clause-len c = length-value_lanes 32 c.args.digits c.fits-digits.0

pub returns-clause-lanes : goal.returns-clause-lanes
returns-clause-lanes c k h = values_at 32 c.args.digits k c.fits-digits.0 h c.fits-digits.1
