use Rattle.std.proofs.Common.{◌≡◌, []}
use Rattle.servant_store.specs.Store.{since}
use Rattle.servant_store.specs.Views.{pairs_of, put_all}
use Rattle.servant_store.proofs.maps.set_between.Given as goal

abbrev pub invariant-loop-key : goal.invariant-loop-key
invariant-loop-key l =
    record {
      same : put_all (since (pairs_of l.base.entries) (pairs_of l.key-iterator)).set (pairs_of l.map.entries)
          ≡ put_all (since (pairs_of l.base.entries) (pairs_of l.later.entries)).set [];
      can : (goal.iterator-loop-key).can_next l.key-iterator;
      finite : (goal.iterator-loop-key).is_finite l.key-iterator;
    }
