use Rattle.live_monitor.proofs.Turning.{carries, goes_nowhere, goes_on_both}
use Rattle.live_monitor.proofs.bringing.carry_all.Goals as goal

pub loop-init : goal.loop-init
loop-init g c = (c.requires, goes_nowhere c.args.pass.now)

pub returns-then-is_none-clause-goes_on : goal.returns-then-is_none-clause-goes_on
returns-then-is_none-clause-goes_on g c =
    goes_on_both c.args.pass.now c.loop.pass c.carry.new.pass c.loop.invariant.1 (carries g.S.Servant.machine c.args.group.now.lock c.loop.pass c.carry.new.pass c.carry.result c.carry.ensures)

pub loop-preserved : goal.loop-preserved
loop-preserved g c = (
  c.carry.ensures.own,
  goes_on_both c.args.pass.now c.loop.pass c.carry.new.pass c.loop.invariant.1 (carries g.S.Servant.machine c.args.group.now.lock c.loop.pass c.carry.new.pass c.carry.result c.carry.ensures),
)
