use Rattle.std.proofs.Common.{◌≡◌, []}
use Rattle.servant_store.specs.Views.{pairs_of, put_all}
use Rattle.servant_store.proofs.maps.copied.Given as goal

abbrev pub invariant-loop-key : goal.invariant-loop-key
invariant-loop-key l =
    record {
      same : put_all (pairs_of l.key-iterator) (pairs_of l.copy.entries) ≡ put_all (pairs_of l.map.entries) [];
      can : (goal.iterator-loop-key).can_next l.key-iterator;
      finite : (goal.iterator-loop-key).is_finite l.key-iterator;
    }
