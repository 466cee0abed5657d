use Rattle.group_looks.proofs.Looking.{figure_is}
use Rattle.group_looks.proofs.figures.figure_of.Goals as goal

pub returns : goal.returns
returns g c = λ group stands.
    figure_is g.S.Servant.machine c.cores_tell.ensures c.args.core.now group stands c.args.host c.requires.host
    c.down-up.result c.known-known.result c.in_ok-at.at c.down-up.ensures c.known-known.ensures (c.in_ok-at.ensures group stands)
