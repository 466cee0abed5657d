-- A list to which one is pushed, if there is memory.
use Rattle.std.proofs.Common.{◌≡◌, Bool, true, false, cond, List, [], ◌∷◌, ◌++◌}
use Rattle.std.specs.List.{All}
use Rattle.std.proofs.lemmas.List.Elements.{All-push, All-same}

pub all_pushed : {A : Type 0} (P : A → Type 0) (pushed : Bool) (old new : List A) (x : A) → new ≡ cond pushed (old ++ x ∷ []) old → All P old → P x → All P new
all_pushed P true old new x is all one = All-same P new (old ++ x ∷ []) is (All-push P old x all one)
all_pushed P false old new x is all one = All-same P new old is all
