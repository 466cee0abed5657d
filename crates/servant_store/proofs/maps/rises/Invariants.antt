use Rattle.std.proofs.Common.{◌≡◌, ◌≤◌, ◌-◌, drop}
use Rattle.servant_store.specs.Store.{rises}
use Rattle.servant_store.specs.Views.{keys_of}
use Rattle.servant_store.proofs.maps.rises.Given as goal

abbrev pub invariant-loop-i : goal.invariant-loop-i
invariant-loop-i l =
    record {
      from : 1 ≤ l.i;
      same : rises (keys_of (drop (l.i - 1) l.keys)) ≡ rises (keys_of l.keys);
    }
