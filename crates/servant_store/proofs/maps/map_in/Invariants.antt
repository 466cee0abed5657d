use Rattle.std.proofs.Common.{◌≡◌, ◌-◌, []}
use Rattle.servant_store.specs.Store.{pairs_in}
use Rattle.servant_store.specs.Views.{pairs_of, put_all}
use Rattle.servant_store.proofs.maps.map_in.Given as goal

abbrev pub invariant-loop : goal.invariant-loop
invariant-loop l =
    record {
      map : put_all (pairs_in (l.count - l.counter) l.rest).0 (pairs_of l.map.entries) ≡ put_all (pairs_in l.count l.bytes).0 [];
      rest : (pairs_in (l.count - l.counter) l.rest).1 ≡ (pairs_in l.count l.bytes).1;
    }
