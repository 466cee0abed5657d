use Rattle.std.proofs.Common.{length, refl, ap, ◌∙◌, arith}
use Rattle.live_net.proofs.Binding.{none_bound, one_bound, one_longer}
use Rattle.live_net.proofs.binds.bind_doors.Goals as goal

pub loop-place-init : goal.loop-place-init
loop-place-init g c =
    let none = c.in-Ok.ensures.items in
    record {
      doors = ap length none;
      room = c.in-Ok.ensures.exact;
      ports = none_bound g.A.Acceptor.own_port c.in-Ok.doors.items c.in-Ok-no_ports.ports.items none c.in-Ok-no_ports.ensures;
      faults = refl;
      broken = refl;
      callers = refl;
    }

pub loop-place-preserved : goal.loop-place-preserved
loop-place-preserved g c =
    let inv = c.loop-place.invariant in
    let doors = c.loop-place.doors.items in
    let door = c.in-Some.door in
    let bound = c.in-Some.ensures in
    let pushed = c.push_reserved.ensures.items in
    record {
      doors = one_longer doors c.push_reserved.new.self.items door c.loop-place.place pushed inv.doors;
      room = omega (arith, c.push_reserved.ensures.capacity, inv.room);
      ports = one_bound g.A.Acceptor.own_port doors c.push_reserved.new.self.items door c.loop-place.ports.items c.loop-place.place c.port.result
          inv.ports inv.doors (omega (arith, c.loop-place-test.true, c.requires.few)) c.port.ensures pushed;
      faults = bound.faults ∙ inv.faults;
      broken = bound.broken ∙ inv.broken;
      callers = bound.callers ∙ inv.callers;
    }
