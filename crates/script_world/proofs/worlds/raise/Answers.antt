use Rattle.std.proofs.Common.{arith, false, get_or, refl}
use Rattle.script_world.specs.declared.hosts.HostState.{HostState}
use Rattle.script_world.specs.World.{ticked}
use Rattle.script_world.proofs.Loops.{at_hand, one_more}
use Rattle.script_world.proofs.worlds.raise.Goals as goal

pub loop-host-preserved : goal.loop-host-preserved
loop-host-preserved c =
    let none : HostState = record { up = false; clock = 0 } in
    let ys = c.loop-host.host-items in
    let i = c.loop-host.host-index in
    one_more (ticked c.args.ticks) c.args.hosts.now.items ys i (get_or ys i none) c.ticked.result c.loop-host.invariant
    (at_hand (ticked c.args.ticks) c.args.hosts.now.items ys i (get_or ys i none) none c.loop-host.invariant
    (omega (arith, c.loop-host-test.true, c.loop-host.auto.host-items)) refl) c.ticked.ensures
