use Rattle.std.proofs.Common.{ap, sym, ◌∙◌}
use Rattle.std.specs.Prelude.{option_copied}
use Rattle.group_core.proofs.WhoTakes.{down_away, here_told, known_told, up_told}
use Rattle.group_core.proofs.cores.GroupCore.is_here.Goals as goal

pub returns-then-down : goal.returns-then-down
returns-then-down g c = λ group stands.
    down_away g.S.Servant.machine c.args.self.now group stands c.args.host.0
    (up_told g.S.Servant.machine c.args.self.now group stands c.args.host.0 c.down.result _ c.requires.host c.down.ensures c.if-down.true)

pub returns-in-None : goal.returns-in-None
returns-in-None g c = λ group stands.
    here_told g.S.Servant.machine c.args.self.now group stands c.cores_tell.ensures c.args.host.0 c.known.result.0 _
    (known_told g.S.Servant.machine c.args.self.now group stands c.args.host.0 c.known.result.0 c.requires.host c.known.ensures)
    (sym (ap option_copied c.in-None.is) ∙ c.view.ensures)
    (up_told g.S.Servant.machine c.args.self.now group stands c.args.host.0 c.down.result _ c.requires.host c.down.ensures c.if-down.false)

pub returns-in-Some : goal.returns-in-Some
returns-in-Some g c = λ group stands.
    c.has.ensures
    ∙ here_told g.S.Servant.machine c.args.self.now group stands c.cores_tell.ensures c.args.host.0 c.known.result.0 _
    (known_told g.S.Servant.machine c.args.self.now group stands c.args.host.0 c.known.result.0 c.requires.host c.known.ensures)
    (sym (ap option_copied c.in-Some.is) ∙ c.view.ensures)
    (up_told g.S.Servant.machine c.args.self.now group stands c.args.host.0 c.down.result _ c.requires.host c.down.ensures c.if-down.false)
