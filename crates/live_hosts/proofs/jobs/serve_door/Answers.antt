use Rattle.live_hosts.proofs.Moving.{goes_on, rests}
use Rattle.live_hosts.proofs.jobs.serve_door.Goals as goal

pub loop-init : goal.loop-init
loop-init g c = (c.requires.own, rests c.args.host.0 c.args.pass.now)

pub returns-then-visit-clause-moves : goal.returns-then-visit-clause-moves
returns-then-visit-clause-moves g c =
    goes_on c.args.host.0 c.args.pass.now c.loop.pass c.serve_group-visit.new.pass c.loop.invariant.1 c.serve_group-visit.ensures.served.moves

pub loop-preserved : goal.loop-preserved
loop-preserved g c = (
  c.serve_group-visit.ensures.own,
  goes_on c.args.host.0 c.args.pass.now c.loop.pass c.serve_group-visit.new.pass c.loop.invariant.1 c.serve_group-visit.ensures.served.moves,
)
