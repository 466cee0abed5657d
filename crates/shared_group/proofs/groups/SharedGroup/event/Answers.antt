use Rattle.std.proofs.Common.{subst}
use Rattle.shared_group.specs.declared.calls.Call.TheVariants as calls
use Rattle.shared_group.specs.declared.calls.CallAnswer.{CallAnswer}
use Rattle.shared_group.specs.Turns.{IsTaken}
use Rattle.shared_group.proofs.Taking.{is_event}
use Rattle.shared_group.proofs.groups.SharedGroup.event.Goals as goal

pub event_told-requires : goal.event_told-requires
event_told-requires g c = is_event g.S.Servant.machine c.args.self.now.lock c.args.pass.now c.take.new.pass c.take.result c.args.event c.take.ensures

pub returns : goal.returns
returns g c = subst (λ (answer : CallAnswer). IsTaken g.S.Servant.machine c.args.self.now.lock c.args.pass.now (calls.Act c.args.event) answer c.take.new.pass) c.event_told.ensures c.take.ensures
