use Rattle.std.proofs.Common.{ap}
use Rattle.world_monitors.specs.Polling.{poll_line, poll_of, polled}
use Rattle.world_turns.specs.Doing.{acts_by}
use Rattle.world_monitors.proofs.polling.poll_line.Goals as goal

pub returns-in-Ok : goal.returns-in-Ok
returns-in-Ok c = λ calls.
    let w = c.args.world.now in
    let found = c.in-There.ensures in
    acts_by (poll_line w c.args.name.now) (polled w found.0) c.in-Ok.report c.poll.new.world calls calls (ap (poll_of w) found.1) (c.in-Ok.ensures found.0 calls found.2)
