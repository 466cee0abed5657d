use Rattle.std.proofs.Common.{subst}
use Rattle.shared_group.specs.declared.calls.Call.TheVariants as calls
use Rattle.shared_group.specs.declared.calls.CallAnswer.{CallAnswer}
use Rattle.shared_group.specs.Turns.{IsTaken}
use Rattle.shared_group.proofs.Taking.{are_figures}
use Rattle.shared_group.proofs.groups.SharedGroup.figures.Goals as goal

pub figures_told-requires : goal.figures_told-requires
figures_told-requires g c = are_figures g.S.Servant.machine c.args.self.now.lock c.args.pass.now c.take.new.pass c.take.result c.take.ensures

pub returns : goal.returns
returns g c = subst (λ (answer : CallAnswer). IsTaken g.S.Servant.machine c.args.self.now.lock c.args.pass.now calls.Figures answer c.take.new.pass) c.figures_told.ensures c.take.ensures
