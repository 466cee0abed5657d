use Rattle.std.proofs.Common.{◌≡◌, drop}
use Rattle.std.specs.FinMap.{find}
use Rattle.std.specs.Prelude.{is_some}
use Rattle.std.specs.List.{list_all}
use Rattle.servant_store.specs.Store.{order}
use Rattle.servant_store.specs.Views.{keys_of, pairs_of}
use Rattle.servant_store.proofs.maps.all_of.Given as goal

abbrev pub invariant-loop-key : goal.invariant-loop-key
invariant-loop-key l =
    list_all (λ key. is_some (find order key (pairs_of l.map.entries))) (keys_of (drop l.key-index l.keys))
    ≡ list_all (λ key. is_some (find order key (pairs_of l.map.entries))) (keys_of l.keys)
