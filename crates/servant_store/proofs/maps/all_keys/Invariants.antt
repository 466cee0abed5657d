use Rattle.std.proofs.Common.{◌≡◌, drop}
use Rattle.std.specs.List.{list_all}
use Rattle.servant_store.specs.Store.{is_key}
use Rattle.servant_store.specs.Views.{keys_of}
use Rattle.servant_store.proofs.maps.all_keys.Given as goal

abbrev pub invariant-loop-key : goal.invariant-loop-key
invariant-loop-key l =
    list_all is_key (keys_of (drop l.key-index l.keys)) ≡ list_all is_key (keys_of l.keys)
