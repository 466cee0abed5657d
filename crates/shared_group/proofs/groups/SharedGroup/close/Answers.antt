use Rattle.std.proofs.Common.{subst}
use Rattle.shared_group.specs.Turns.{IsWhole, SharedValue}
use Rattle.shared_group.proofs.Taking.{whole}
use Rattle.shared_group.proofs.groups.SharedGroup.close.Goals as goal

pub returns : goal.returns
returns g c =
    subst (λ (v : SharedValue). IsWhole g.S.Servant.machine v.lock c.args.pass c.close.result) c.self.view_is
    (whole g.S.Servant.machine c.self.inside.lock c.args.pass c.close.result c.close.ensures)
