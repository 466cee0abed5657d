use Rattle.std.proofs.Common.{◌≡◌, ◌++◌}
use Rattle.std.specs.List.{AllByRecursion}
use Rattle.hist_lock.specs.Passes.{IsOf}
use Rattle.live_hosts.specs.Posts.{HasSeenMore, IsPosted}
use Rattle.live_hosts.proofs.Ending.{HaveEnded}
use Rattle.live_hosts.proofs.joins.join_hosts.Given as goal

-- those that have ended, and those that are to come
abbrev pub invariant-loop-host : goal.invariant-loop-host
invariant-loop-host g l = record {
  whole : l.yielded ++ l.host-iterator.rest.items ≡ l.fn.hosts.items;
  own : IsOf l.fn.group.lock l.main;
  main : HasSeenMore l.fn.main l.main;
  left : AllByRecursion (IsPosted l.fn.group) l.host-iterator.rest.items;
  ended : HaveEnded l.yielded l.main;
}
