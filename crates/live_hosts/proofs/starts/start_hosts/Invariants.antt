use Rattle.std.proofs.Common.{◌≡◌, ◌+◌, ◌≤◌, length, vec_len, vec_capacity}
use Rattle.std.specs.Arc.{arc_value}
use Rattle.hist_lock.specs.Passes.{IsOf}
use Rattle.live_hosts.proofs.Starting.{AreStarted}
use Rattle.live_hosts.proofs.starts.start_hosts.Given as goal

-- those that were started, and the doors that are left
abbrev pub invariant-loop-door : goal.invariant-loop-door
invariant-loop-door g l = record {
  whole : length l.started.items + length l.door-iterator.rest.items ≡ length l.fn.doors.items;
  room : vec_len l.started + length l.door-iterator.rest.items ≤ vec_capacity l.started;
  own : IsOf (arc_value l.fn.group).lock l.main;
  are : AreStarted (arc_value l.fn.group) l.fn.main l.main l.started.items;
  faults : l.crew.faults ≡ l.fn.crew.faults;
}
