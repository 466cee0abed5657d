-- What maps and vectors of the code hold, without where it lies in memory.
use Rattle.std.specs.Prelude.{ℕ, List, [], ◌∷◌, map}
use Rattle.std.specs.FinMap.{put}
use Rattle.std.specs.declared.vec.Vec.{Vec}
use Rattle.servant_store.specs.Store.{Pairs, order, without_key}

abbrev pub pairs_of : {A B : Type 0} → List (Vec ℕ A × Vec ℕ B) → Pairs
pairs_of {A} {B} entries = map (λ (e : Vec ℕ A × Vec ℕ B). (e.0.items, e.1.items)) entries

abbrev pub keys_of : {A : Type 0} → List (Vec ℕ A) → List (List ℕ)
keys_of {A} keys = map (λ (k : Vec ℕ A). k.items) keys

-- pairs after others were put, one by one
abbrev pub put_all : Pairs → Pairs → Pairs
put_all [] pairs = pairs
put_all (pair ∷ more) pairs = put_all more (put order pair.0 pair.1 pairs)

-- pairs after keys were taken out, one by one
abbrev pub out_all : List (List ℕ) → Pairs → Pairs
out_all [] pairs = pairs
out_all (key ∷ keys) pairs = out_all keys (without_key key pairs)
