use Rattle.live_monitor.proofs.Turning.{goes_on_both, reports}
use Rattle.live_monitor.proofs.members.report.Goals as goal

pub returns-in_default : goal.returns-in_default
returns-in_default g c = record {
  own = c.event-answer.ensures.own;
  goes_on = reports g.S.Servant.machine c.args.group.now.lock c.args.pass.now c.event-answer.new.pass c.args.host c.event-answer.result c.requires.down c.event-answer.ensures;
}

pub returns-clause-goes_on : goal.returns-clause-goes_on
returns-clause-goes_on g c =
    goes_on_both c.args.pass.now c.event-answer.new.pass c.bring_all.new.pass
    (reports g.S.Servant.machine c.args.group.now.lock c.args.pass.now c.event-answer.new.pass c.args.host c.event-answer.result c.requires.down c.event-answer.ensures)
    c.bring_all.ensures.goes_on
