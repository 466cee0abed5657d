use Rattle.std.proofs.Common.{length, refl, ap, ◌∙◌, arith}
use Rattle.live_net.specs.Callers.{IsUnused}
use Rattle.live_net.proofs.Binding.{one_longer}
use Rattle.live_net.proofs.Calling.{all_none, all_pushed, none_called, one_called}
use Rattle.live_net.proofs.callers.make_callers.Goals as goal

pub loop-made-init : goal.loop-made-init
loop-made-init g c =
    let none = c.in-Ok.ensures.items in
    record {
      all = ap length none;
      room = c.in-Ok.ensures.exact;
      callers = none_called g.D.Dialer.links (g.N.Network.callers c.args.net.now) c.in-Ok.callers.items none;
      unused = all_none (λ d. IsUnused (g.D.Dialer.count d) (g.D.Dialer.lent d) (g.D.Dialer.sent d) (g.D.Dialer.targets d)) c.in-Ok.callers.items none;
      faults = refl;
      broken = refl;
    }

pub loop-made-preserved : goal.loop-made-preserved
loop-made-preserved g c =
    let inv = c.loop-made.invariant in
    let callers = c.loop-made.callers.items in
    let now = c.push_reserved.new.self.items in
    let caller = c.caller.result in
    let made = c.caller.ensures in
    let pushed = c.push_reserved.ensures.items in
    record {
      all = one_longer callers now caller c.loop-made._made pushed inv.all;
      room = omega (arith, c.push_reserved.ensures.capacity, inv.room);
      callers = one_called g.D.Dialer.links (g.N.Network.callers c.args.net.now) (g.N.Network.callers c.loop-made.net) (g.N.Network.callers c.caller.new.self) callers now caller inv.callers made.callers pushed;
      unused = all_pushed (λ d. IsUnused (g.D.Dialer.count d) (g.D.Dialer.lent d) (g.D.Dialer.sent d) (g.D.Dialer.targets d)) callers now caller inv.unused
          record { no_faults = made.fresh; none_out = made.none_out; none_back = made.none_back; none_dialled = made.none_dialled } pushed;
      faults = made.faults ∙ inv.faults;
      broken = made.broken ∙ inv.broken;
    }
