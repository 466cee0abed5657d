use Rattle.std.proofs.Common.{◌∙◌, subst, sym}
use Rattle.hist_lock.specs.Passes.{own_turns}
use Rattle.live_monitor.specs.Monitored.{Errand, IsMonitored}
use Rattle.live_monitor.proofs.Turning.{goes_on_looked, takes_checkpoint}
use Rattle.live_monitor.proofs.rounds.round.Goals as goal

pub returns-clause-so_far : goal.returns-clause-so_far
returns-clause-so_far g c =
    let errand = c.look.new.monitor in
    let carried = c.carry_all.ensures.goes_on.keeps errand (c.attend_all.ensures.goes_on.keeps errand c.look.ensures.so_far) in
    let last = takes_checkpoint g.S.Servant.machine c.args.group.now.lock c.carry_all.new.pass c.checkpoint.new.pass c.args.now c.checkpoint.result c.checkpoint.ensures in
    subst (λ (e : Errand). IsMonitored e (own_turns c.checkpoint.new.pass)) (sym c.attend_all.ensures.monitor) (last.keeps errand carried)

pub returns-clause-looks : goal.returns-clause-looks
returns-clause-looks g c =
    let old = own_turns c.args.pass.now in
    let attended = goes_on_looked old c.look.new.pass c.attend_all.new.pass c.look.ensures.looks c.attend_all.ensures.goes_on in
    let carried = goes_on_looked old c.attend_all.new.pass c.carry_all.new.pass attended c.carry_all.ensures.goes_on in
    goes_on_looked old c.carry_all.new.pass c.checkpoint.new.pass carried
    (takes_checkpoint g.S.Servant.machine c.args.group.now.lock c.carry_all.new.pass c.checkpoint.new.pass c.args.now c.checkpoint.result c.checkpoint.ensures)

pub returns-clause-number : goal.returns-clause-number
returns-clause-number g c =
    let last = takes_checkpoint g.S.Servant.machine c.args.group.now.lock c.carry_all.new.pass c.checkpoint.new.pass c.args.now c.checkpoint.result c.checkpoint.ensures in
    last.number ∙ c.carry_all.ensures.goes_on.number ∙ c.attend_all.ensures.goes_on.number ∙ c.look.ensures.number
