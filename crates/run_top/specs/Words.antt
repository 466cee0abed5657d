-- The forms of the words behind the program's name.
use Rattle.std.specs.Prelude.{◌≡◌, ℕ, ◌&&◌, nat_le, if◌then◌else◌, List, [], ◌∷◌, map, codes, string_bytes, Option, Some, None, IsSome, IfSome}
use Rattle.std.specs.declared.string.String.{String}
use Rattle.std.specs.declared.alloc.Global.{Global}
use Rattle.std.specs.Str.{bytes_eq}
use Rattle.decimal_numbers.specs.Numbers.{number}

-- the one word `run`
abbrev pub IsRun : List (String Global) → Type 0
IsRun words = map string_bytes words ≡ codes "run" ∷ []

-- from 1 to 50,000
abbrev pub in_range : Option ℕ → Option ℕ
in_range None = None
in_range (Some n) = if nat_le 1 n && nat_le n 50000 then Some n else None

-- the rounds that a word stands for, if it does
abbrev pub rounds_of : List ℕ → Option ℕ
rounds_of word = in_range (number word)

-- the rounds of `run --make N`, if texts are these
abbrev pub rounds_asked : List (List ℕ) → Option ℕ
rounds_asked [] = None
rounds_asked (first ∷ []) = None
rounds_asked (first ∷ second ∷ []) = None
rounds_asked (first ∷ second ∷ third ∷ []) =
    if bytes_eq first (codes "run") && bytes_eq second (codes "--make") then rounds_of third else None
rounds_asked (first ∷ second ∷ third ∷ fourth ∷ more) = None

abbrev pub IsMake : List (String Global) → Type 0
IsMake words = IsSome (rounds_asked (map string_bytes words))

-- what holds of the rounds of `run --make N`
abbrev pub IfMake : List (String Global) → (ℕ → Type 0) → Type 0
IfMake words P = IfSome (rounds_asked (map string_bytes words)) P
