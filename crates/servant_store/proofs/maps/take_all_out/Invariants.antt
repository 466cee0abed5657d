use Rattle.std.proofs.Common.{◌≡◌, true, drop}
use Rattle.std.specs.FinMap.{is_sorted}
use Rattle.servant_store.specs.Store.{order}
use Rattle.servant_store.specs.Views.{keys_of, out_all, pairs_of}
use Rattle.servant_store.proofs.maps.take_all_out.Given as goal

abbrev pub invariant-loop-key : goal.invariant-loop-key
invariant-loop-key l =
    record {
      same : out_all (keys_of (drop l.key-index l.keys)) (pairs_of l.map.entries) ≡ out_all (keys_of l.keys) (pairs_of l.fn.map.entries);
      sorted : is_sorted order (pairs_of l.map.entries) ≡ true;
    }
