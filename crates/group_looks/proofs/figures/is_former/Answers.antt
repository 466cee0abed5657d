use Rattle.std.proofs.Common.{sym, ◌∙◌}
use Rattle.std.specs.Prelude.{option_copied}
use Rattle.group_looks.proofs.Looking.{former_is, some_copied}
use Rattle.group_looks.proofs.figures.is_former.Goals as goal

pub returns-then-not-has : goal.returns-then-not-has
returns-then-not-has g c = λ group stands.
    former_is g.S.Servant.machine c.cores_tell.ensures c.args.core.now group stands c.args.host c.requires.host
    c.newest.result.now c.has.result (option_copied c.replica.result) c.is_some.result (c.newest.ensures group stands) c.has.ensures (c.has.ensures ∙ sym c.if-not-has.ensures) c.replica.ensures
    (c.is_some.ensures ∙ sym (some_copied c.replica.result))
