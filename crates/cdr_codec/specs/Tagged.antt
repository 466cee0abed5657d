-- What the octets behind a number may be.
use Rattle.std.specs.Prelude.{ℕ, ◌+◌, ◌==◌, ◌<◌, ◌^◌, List, length, Option, option_map}
use Rattle.std.specs.List.{find}

-- content that can be read as an encapsulation: its places fit an unsigned long
abbrev pub IsShort : {X : Type 0} → (X → ℕ × List ℕ) → X → Type 0
IsShort parts x = length (parts x).1 + 8 < 2 ^ 32

-- the octets of the first one behind this number
abbrev pub content_of : {X : Type 0} → (X → ℕ × List ℕ) → ℕ → List X → Option (List ℕ)
content_of parts tag xs = option_map (λ x. (parts x).1) (find (λ x. (parts x).0 == tag) xs)

-- content whose length has a spelling
abbrev pub IsCounted : {X : Type 0} → (X → ℕ × List ℕ) → X → Type 0
IsCounted parts x = length (parts x).1 < 2 ^ 32

-- a number that has a spelling
abbrev pub IsNumbered : {X : Type 0} → (X → ℕ × List ℕ) → X → Type 0
IsNumbered parts x = (parts x).0 < 2 ^ 32
