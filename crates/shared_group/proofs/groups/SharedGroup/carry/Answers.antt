use Rattle.std.proofs.Common.{subst}
use Rattle.shared_group.specs.declared.calls.Call.TheVariants as calls
use Rattle.shared_group.specs.declared.calls.CallAnswer.{CallAnswer}
use Rattle.shared_group.specs.Turns.{IsTaken}
use Rattle.shared_group.proofs.Taking.{is_carry}
use Rattle.shared_group.proofs.groups.SharedGroup.carry.Goals as goal

pub carry_told-requires : goal.carry_told-requires
carry_told-requires g c = is_carry g.S.Servant.machine c.args.self.now.lock c.args.pass.now c.take.new.pass c.take.result c.take.ensures

pub returns : goal.returns
returns g c = subst (λ (answer : CallAnswer). IsTaken g.S.Servant.machine c.args.self.now.lock c.args.pass.now calls.Carry answer c.take.new.pass) c.carry_told.ensures c.take.ensures
