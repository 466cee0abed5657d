use Rattle.std.proofs.Common.{subst}
use Rattle.shared_group.specs.declared.calls.Call.TheVariants as calls
use Rattle.shared_group.specs.declared.calls.CallAnswer.{CallAnswer}
use Rattle.shared_group.specs.Turns.{IsTaken}
use Rattle.shared_group.proofs.Taking.{is_reply}
use Rattle.shared_group.proofs.groups.SharedGroup.replied.Goals as goal

pub reply_told-requires : goal.reply_told-requires
reply_told-requires g c = is_reply g.S.Servant.machine c.args.self.now.lock c.args.pass.now c.take.new.pass c.take.result c.args.key c.take.ensures

pub returns : goal.returns
returns g c = subst (λ (answer : CallAnswer). IsTaken g.S.Servant.machine c.args.self.now.lock c.args.pass.now (calls.Reply c.args.key) answer c.take.new.pass) c.reply_told.ensures c.take.ensures
