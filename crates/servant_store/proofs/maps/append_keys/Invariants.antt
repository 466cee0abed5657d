use Rattle.std.proofs.Common.{◌≡◌, ◌++◌, true, drop}
use Rattle.std.specs.List.{flat_map, list_all}
use Rattle.servant_store.specs.Store.{is_key, spelled_key}
use Rattle.servant_store.specs.Views.{keys_of}
use Rattle.servant_store.proofs.maps.append_keys.Given as goal

abbrev pub invariant-loop-key : goal.invariant-loop-key
invariant-loop-key l =
    record {
      written : l.text.items ++ flat_map spelled_key (keys_of (drop l.key-index l.keys)) ≡ l.fn.text.items ++ flat_map spelled_key (keys_of l.keys);
      sound : list_all is_key (keys_of (drop l.key-index l.keys)) ≡ true;
    }
