use Rattle.std.proofs.Common.{subst}
use Rattle.shared_group.specs.declared.calls.Call.TheVariants as calls
use Rattle.shared_group.specs.declared.calls.CallAnswer.{CallAnswer}
use Rattle.shared_group.specs.Turns.{IsTaken}
use Rattle.hist_lock.specs.Histories.{calls as calls_of}
use Rattle.shared_group.proofs.May.{free_may}
use Rattle.shared_group.proofs.Taking.{is_ask}
use Rattle.shared_group.proofs.groups.SharedGroup.ask.Goals as goal

pub take-requires-clause-may : goal.take-requires-clause-may
take-requires-clause-may g c =
    free_may g.S.Servant.machine c.args.self.now.lock.opening (calls_of c.args.pass.now.seen) (calls.Ask c.args.host c.args.asked) (c.requires.host, c.requires.short)

pub ask_told-requires : goal.ask_told-requires
ask_told-requires g c = is_ask g.S.Servant.machine c.args.self.now.lock c.args.pass.now c.take.new.pass c.take.result c.args.host c.args.asked c.take.ensures

pub returns : goal.returns
returns g c = subst (λ (answer : CallAnswer). IsTaken g.S.Servant.machine c.args.self.now.lock c.args.pass.now (calls.Ask c.args.host c.args.asked) answer c.take.new.pass) c.ask_told.ensures c.take.ensures
