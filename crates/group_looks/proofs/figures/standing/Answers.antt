use Rattle.std.proofs.Common.{ap}
use Rattle.std.specs.Prelude.{option_copied}
use Rattle.group_looks.proofs.Looking.{none_stands, some_stands}
use Rattle.group_looks.proofs.figures.standing.Goals as goal

pub returns-in-None : goal.returns-in-None
returns-in-None g c = λ group stands.
    none_stands g.S.Servant.machine c.cores_tell.ensures c.args.core.now group stands c.args.host.0 c.requires.host
    _ c.replica.ensures (ap option_copied c.in-None.is)

pub returns-in_ok-state-in-Some : goal.returns-in_ok-state-in-Some
returns-in_ok-state-in-Some g c = λ group stands.
    some_stands g.S.Servant.machine c.cores_tell.ensures c.args.core.now group stands c.args.host.0 c.requires.host
    _ c.in-Some.replica.now c.position.result c.in_ok-state-in-Some.state c.replica.ensures (ap option_copied c.in-Some.is)
    c.position.ensures c.in_ok-state-in-Some.ensures
