use Rattle.std.proofs.Common.{◌≡◌}
use Rattle.std.specs.List.{list_all}
use Rattle.servant_store.specs.Store.{is_pair}
use Rattle.servant_store.specs.Views.{pairs_of}
use Rattle.servant_store.proofs.maps.all_pairs.Given as goal

abbrev pub invariant-loop-key : goal.invariant-loop-key
invariant-loop-key l =
    record {
      same : list_all is_pair (pairs_of l.key-iterator) ≡ list_all is_pair (pairs_of l.map.entries);
      can : (goal.iterator-loop-key).can_next l.key-iterator;
      finite : (goal.iterator-loop-key).is_finite l.key-iterator;
    }
