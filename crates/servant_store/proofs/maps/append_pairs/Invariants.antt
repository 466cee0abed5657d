use Rattle.std.proofs.Common.{◌≡◌, ◌++◌, true}
use Rattle.std.specs.List.{flat_map, list_all}
use Rattle.servant_store.specs.Store.{is_pair, spelled_pair}
use Rattle.servant_store.specs.Views.{pairs_of}
use Rattle.servant_store.proofs.maps.append_pairs.Given as goal

abbrev pub invariant-loop-key : goal.invariant-loop-key
invariant-loop-key l =
    record {
      written : l.text.items ++ flat_map spelled_pair (pairs_of l.key-iterator) ≡ l.fn.text.items ++ flat_map spelled_pair (pairs_of l.map.entries);
      sound : list_all is_pair (pairs_of l.key-iterator) ≡ true;
      can : (goal.iterator-loop-key).can_next l.key-iterator;
      finite : (goal.iterator-loop-key).is_finite l.key-iterator;
    }
