use Rattle.std.proofs.Common.{sym, ◌∙◌}
use Rattle.fault_script.proofs.LaneLemmas.{greater_small, length-greater}
use Rattle.fault_script.proofs.hexadecimal.greater.Goals as goal

pub returns-clause-len : goal.returns-clause-len
returns-clause-len c = length-greater c.args.a c.args.b (c.fits-a.0 ∙ sym c.fits-b.0) ∙ c.fits-a.0

pub returns-clause-small : goal.returns-clause-small
returns-clause-small c = greater_small c.args.a c.args.b (c.fits-a.0 ∙ sym c.fits-b.0)
