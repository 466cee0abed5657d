use Rattle.std.proofs.Common.{subst}
use Rattle.shared_group.specs.declared.calls.Call.TheVariants as calls
use Rattle.shared_group.specs.declared.calls.CallAnswer.{CallAnswer}
use Rattle.shared_group.specs.Turns.{IsTaken}
use Rattle.shared_group.proofs.Taking.{is_checkpoint}
use Rattle.shared_group.proofs.groups.SharedGroup.checkpoint.Goals as goal

pub checkpoint_told-requires : goal.checkpoint_told-requires
checkpoint_told-requires g c = is_checkpoint g.S.Servant.machine c.args.self.now.lock c.args.pass.now c.take.new.pass c.take.result c.args.clock c.take.ensures

pub returns : goal.returns
returns g c = subst (λ (answer : CallAnswer). IsTaken g.S.Servant.machine c.args.self.now.lock c.args.pass.now (calls.Checkpoint c.args.clock) answer c.take.new.pass) c.checkpoint_told.ensures c.take.ensures
