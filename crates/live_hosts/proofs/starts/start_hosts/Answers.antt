use Rattle.std.proofs.Common.{◌≡◌, List, [], ◌∷◌, length, refl, sym, ap, ◌∙◌, subst, arith, length-append}
use Rattle.std.specs.Arc.{arc_value}
use Rattle.hist_lock.specs.Passes.{IsOf}
use Rattle.live_hosts.specs.Posts.{Post}
use Rattle.live_hosts.proofs.Starting.{none_rise, none_started, one_started, rises}
use Rattle.live_hosts.proofs.starts.start_hosts.Goals as goal

pub loop-door-init : goal.loop-door-init
loop-door-init g c =
    let none : c.reserve.new.self.items ≡ [] = c.reserve.ensures.items ∙ c.new-started.ensures.items in
    let all : c.into_iter-door-iterator.result.rest.items ≡ c.args.doors.items = search in
    record {
      whole = omega (arith, ap length none, ap length all);
      room = omega (arith, c.in-Ok.ensures.ok, c.len.ensures, c.args.doors.ok.0, ap length all);
      own = c.requires.own.0;
      are = none_started (arc_value c.args.group.now) c.args.main.now c.reserve.new.self.items c.requires.own.1 none;
      faults = refl;
    }

pub host_at-host-requires : goal.host_at-host-requires
host_at-host-requires g c =
    let inv = c.loop-door.invariant in
    omega (arith, c.len-place.ensures, c.loop-door.started.ok.0, inv.whole, ap length c.in-Some.ensures.steps.0, c.requires.few)

pub loop-door-preserved : goal.loop-door-preserved
loop-door-preserved g c =
    let inv = c.loop-door.invariant in
    let group = arc_value c.args.group.now in
    let posts : List Post = c.loop-door.started.items in
    let post : Post = c.in-Ok-start_host.host in
    let now = c.loop-door.main in
    let later = c.start_host.new.main in
    let told = c.in-Ok-start_host.ensures in
    let left = ap length c.in-Some.ensures.steps.0 in
    let pushed = c.push_reserved.ensures.items in
    let place = c.host_at-host.ensures ∙ c.len-place.ensures ∙ c.loop-door.started.ok.0 in
    record {
      whole = omega (arith, ap length pushed, length-append posts (post ∷ []), left, inv.whole);
      room = omega (arith, c.push_reserved.ensures.len, c.push_reserved.ensures.capacity, left, inv.room);
      own = subst (IsOf group.lock) (sym told.started.0) inv.own;
      are = one_started group c.args.main.now now later posts c.push_reserved.new.self.items post inv.are inv.own pushed told.started.0
          c.host_at-host.result.0 told.started.1 place told.fresh;
      faults = told.faults ∙ inv.faults;
    }

pub returns-in_default-clause-numbers : goal.returns-in_default-clause-numbers
returns-in_default-clause-numbers g c = none_rise c.args.main.now.number c.reserve.new.self.items (c.reserve.ensures.items ∙ c.new-started.ensures.items)

pub returns-in-Err-clause-numbers : goal.returns-in-Err-clause-numbers
returns-in-Err-clause-numbers g c = rises c.loop-door.invariant.are

pub returns-clause-numbers : goal.returns-clause-numbers
returns-clause-numbers g c = rises c.loop-door.invariant.are
