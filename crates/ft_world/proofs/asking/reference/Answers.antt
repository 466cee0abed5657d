use Rattle.ft_world.proofs.RequestLemmas.{can_redirect}
use Rattle.ft_world.proofs.asking.reference.Goals as goal

pub returns-in-Ok-clause-can : goal.returns-in-Ok-clause-can
returns-in-Ok-clause-can c =
    can_redirect c.view_references_can_be_sent.ensures c.shown_are_views.ensures c.group-group.result.now c.args.version.0 c.in-Ok.redirect c.is_sound.ensures
    c.in-Ok.ensures
