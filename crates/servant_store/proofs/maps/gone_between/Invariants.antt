use Rattle.std.proofs.Common.{◌≡◌, ◌++◌}
use Rattle.servant_store.specs.Store.{since}
use Rattle.servant_store.specs.Views.{keys_of, pairs_of}
use Rattle.servant_store.proofs.maps.gone_between.Given as goal

abbrev pub invariant-loop-key : goal.invariant-loop-key
invariant-loop-key l =
    record {
      same : keys_of l.keys.items ++ (since (pairs_of l.key-iterator) (pairs_of l.later.entries)).gone ≡ (since (pairs_of l.base.entries) (pairs_of l.later.entries)).gone;
      can : (goal.iterator-loop-key).can_next l.key-iterator;
      finite : (goal.iterator-loop-key).is_finite l.key-iterator;
    }
