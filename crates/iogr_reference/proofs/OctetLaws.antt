-- Bytes, one by one.
use Rattle.std.proofs.Common.{ℕ, zero, suc, ◌<◌, List, [], ◌∷◌, lit<}
use Rattle.std.proofs.lemmas.List.Elements.{All-head, All-tail}
use Rattle.hex.specs.Hex.{IsBytes}
use Rattle.iogr_reference.specs.Octets.{AreBytes}

pub at_each : (xs : List ℕ) → AreBytes xs → IsBytes xs
at_each [] h i = lit< tt
at_each (x ∷ xs) h zero = All-head (λ x. x < 256) x xs h
at_each (x ∷ xs) h (suc i) = at_each xs (All-tail (λ x. x < 256) x xs h) i
