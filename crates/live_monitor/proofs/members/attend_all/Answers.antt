use Rattle.std.proofs.Common.{subst}
use Rattle.hist_lock.specs.Passes.{own_turns}
use Rattle.live_monitor.specs.Monitored.{HasDown, ShowsDown}
use Rattle.live_monitor.proofs.Looking.{has_down, was_down}
use Rattle.live_monitor.proofs.Turning.{some_on}
use Rattle.live_monitor.proofs.members.attend_all.Goals as goal

pub attend-requires-clause-down : goal.attend-requires-clause-down
attend-requires-clause-down g c down =
    let items = c.as_slice-figure-items.result.now in
    let figure = c.figure-item.result in
    let among = has_down items c.loop-figure.figure-index figure c.loop-figure-test.true c.figure-item.is down in
    some_on (λ turn. ShowsDown figure.host.0 turn.answer) c.args.pass.now c.loop-figure.pass c.loop-figure.invariant.1
    (was_down c.args.figures.now figure.host.0 (own_turns c.args.pass.now) c.requires.shown.showed (subst (HasDown figure.host.0) c.as_slice-figure-items.ensures.value among))
