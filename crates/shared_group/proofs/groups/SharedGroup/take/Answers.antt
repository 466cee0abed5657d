use Rattle.std.proofs.Common.{subst}
use Rattle.shared_group.specs.Turns.{IsTaken, SharedValue}
use Rattle.shared_group.proofs.Taking.{taken}
use Rattle.shared_group.proofs.groups.SharedGroup.take.Goals as goal

pub returns : goal.returns
returns g c =
    subst (λ (v : SharedValue). IsTaken g.S.Servant.machine v.lock c.args.pass.now c.args.call c.turn.result c.turn.new.pass) c.self.view_is
    (taken g.S.Servant.machine c.self.inside.lock c.args.pass.now c.turn.new.pass c.args.call c.turn.result c.turn.ensures.own c.turn.ensures.turn c.turn.ensures.own_turns c.turn.ensures.legal)
