use Rattle.std.proofs.Common.{ap}
use Rattle.script_groups.specs.Groups.{placed}
use Rattle.ft_world.specs.Retrying.{timed_out, timeout_from, timeout_line}
use Rattle.world_turns.specs.Doing.{acts_by}
use Rattle.ft_world.proofs.retrying.timeout_line.Goals as goal

pub returns-in-Ok : goal.returns-in-Ok
returns-in-Ok c = λ calls.
    let w = c.args.world.now in
    let found = c.in-Some.ensures in
    acts_by (timeout_line w c.args.client.now) (timed_out w (placed c.in-Some.place found.0)) c.in-Ok.report c.time_out.new.world calls calls
    (ap (timeout_from w) found.1) (c.in-Ok.ensures found.0 calls found.2)
