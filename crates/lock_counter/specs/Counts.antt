-- A counter, by its calls: what was added, and what was answered.
use Rattle.std.specs.Prelude.{◌≡◌, ℕ, ◌+◌, ◌%◌, ◌^◌, List, [], ◌∷◌}

-- from this value the calls lead to the one now: each adds, modulo 2 ^ 64, and answers the value then
abbrev pub Counts : ℕ → List (ℕ × ℕ) → ℕ → Type 0
Counts value [] now = now ≡ value
Counts value (call ∷ calls) now = (call.1 ≡ (value + call.0) % 2 ^ 64) × Counts ((value + call.0) % 2 ^ 64) calls now
