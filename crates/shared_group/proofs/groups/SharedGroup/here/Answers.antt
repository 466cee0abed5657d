use Rattle.std.proofs.Common.{subst}
use Rattle.shared_group.specs.declared.calls.Call.TheVariants as calls
use Rattle.shared_group.specs.declared.calls.CallAnswer.{CallAnswer}
use Rattle.shared_group.specs.Turns.{IsTaken}
use Rattle.shared_group.proofs.Taking.{is_here}
use Rattle.shared_group.proofs.groups.SharedGroup.here.Goals as goal

pub here_told-requires : goal.here_told-requires
here_told-requires g c = is_here g.S.Servant.machine c.args.self.now.lock c.args.pass.now c.take.new.pass c.take.result c.args.host c.take.ensures

pub returns : goal.returns
returns g c = subst (λ (answer : CallAnswer). IsTaken g.S.Servant.machine c.args.self.now.lock c.args.pass.now (calls.Here c.args.host) answer c.take.new.pass) c.here_told.ensures c.take.ensures
