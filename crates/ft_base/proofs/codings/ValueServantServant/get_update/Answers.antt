use Rattle.std.proofs.Common.{sym, ◌∙◌}
use Rattle.ft_base.specs.CodingLaws as codings
use Rattle.ft_base.proofs.codings.ValueServantServant.get_update.Goals as goal

pub returns : goal.returns
returns g c =
    rw (← c.self.view_is, ← c.base.view_is)
    (c.in_ok-update.ensures
    ∙ sym (codings.delta_is g.met.V.Coded.owes c.base.inside.value c.self.inside.value c.is_sound-2.ensures c.is_sound.ensures))
