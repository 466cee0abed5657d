use Rattle.std.proofs.Common.{sym, ◌∙◌}
use Rattle.ft_base.specs.CodingLaws as codings
use Rattle.ft_base.proofs.codings.ValueServantServant.signature.Goals as goal

pub returns : goal.returns
returns g c = c.signature_of.ensures ∙ sym (codings.signature_is g.V.Coded.coding c.args.op.now)
