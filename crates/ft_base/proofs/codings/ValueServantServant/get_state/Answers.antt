use Rattle.std.proofs.Common.{sym, ◌∙◌}
use Rattle.ft_base.specs.CodingLaws as codings
use Rattle.ft_base.proofs.codings.ValueServantServant.get_state.Goals as goal

pub returns : goal.returns
returns g c =
    rw (← c.self.view_is)
    (c.in_ok-bytes.ensures ∙ sym (codings.state_of_valid g.V.Coded.coding c.self.inside.value c.is_sound.ensures))
