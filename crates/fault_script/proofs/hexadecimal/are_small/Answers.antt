use Rattle.fault_script.proofs.LaneLemmas.{small_of_mask}
use Rattle.fault_script.proofs.hexadecimal.are_small.Goals as goal

pub returns : goal.returns
returns c = small_of_mask c.args.values c.fits-values.0
