-- One count more.
use Rattle.std.proofs.Common.{ℕ, ◌+◌, ◌%◌, ◌^◌, List, [], ◌∷◌, ◌++◌, ap}
use Rattle.lock_counter.specs.Counts.{Counts}

pub counts-push : (value now more : ℕ) (calls : List (ℕ × ℕ)) → Counts value calls now → Counts value (calls ++ (more, (now + more) % 2 ^ 64) ∷ []) ((now + more) % 2 ^ 64)
counts-push value now more [] is = let same = ap (λ (n : ℕ). (n + more) % 2 ^ 64) is in (same, same)
counts-push value now more (call ∷ calls) counts = (counts.0, counts-push ((value + call.0) % 2 ^ 64) now more calls counts.1)
