use Rattle.std.proofs.Common.{◌≡◌, ◌-◌, ◌++◌}
use Rattle.servant_store.specs.Store.{keys_in}
use Rattle.servant_store.specs.Views.{keys_of}
use Rattle.servant_store.proofs.maps.keys_in.Given as goal

abbrev pub invariant-loop : goal.invariant-loop
invariant-loop l =
    record {
      keys : keys_of l.keys.items ++ (keys_in (l.count - l.counter) l.rest).0 ≡ (keys_in l.count l.bytes).0;
      rest : (keys_in (l.count - l.counter) l.rest).1 ≡ (keys_in l.count l.bytes).1;
    }
