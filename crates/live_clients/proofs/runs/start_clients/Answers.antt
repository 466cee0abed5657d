use Rattle.std.proofs.Common.{◌≡◌, ◌∙◌, [], ◌∷◌, ap, arith, length, length-append, rules}
use Rattle.live_clients.proofs.Orders.{at_hand, one_started}
use Rattle.live_clients.proofs.runs.start_clients.Goals as goal

pub loop-caller-preserved : goal.loop-caller-preserved
loop-caller-preserved g c =
    let done = c.loop-caller.yielded in
    let caller = c.in-Some.caller in
    let so_far = c.loop-caller.invariant in
    let running = c.loop-caller.running.items in
    let begun = c.in-Ok-true.ensures.more c.in-Ok-true.field-0-test in
    let many = ap length begun ∙ length-append running (c.in-Ok.job ∷ []) in
    let came = length-append done (caller ∷ []) in
    let long = so_far.2 in
    let place : c.len-number.result ≡ length done = omega (arith, c.loop-caller.running.ok.0, c.len-number.ensures, long) in (
      at_hand done c.loop-caller.caller-iterator.rest.items c.next.new.self.rest.items c.args.callers.items caller c.in-Some.ensures.steps.0 so_far.0,
      one_started c.args.setting.now running c.start_behind.new.running.items c.in-Ok.job c.len-number.result done caller so_far.1 place begun c.in-Ok.ensures.task,
      omega (arith, many, came, long),
      search rules,
    )
