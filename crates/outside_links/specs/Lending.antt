-- What dialers and networks hand out, and what comes back, as relations between what they tell before and after.
-- Each is None where it isn't told; that then stays so.
use Rattle.std.specs.Prelude.{◌≡◌, ℕ, ◌<◌, List, [], ◌∷◌, ◌++◌, Option, Some, None, option_map}

-- where a link leads
pub record Target : Type 0 where
  -- what the host is called
  pub host : List ℕ
  pub port : ℕ

-- the first place is taken away, and what was handed out has those bytes left
abbrev pub IsFirst : Option (List (List ℕ)) → Option (List (List ℕ)) → Option (List ℕ) → Type 0
IsFirst None now left = now ≡ None
IsFirst (Some links) now left = ((bytes : List ℕ) × (rest : List (List ℕ)) × (links ≡ bytes ∷ rest) × (left ≡ Some bytes) × (now ≡ Some rest))

-- what a link held that came back stands behind the others
abbrev pub IsGained : Option (List (List ℕ)) → Option (List (List ℕ)) → Option (List ℕ) → Type 0
IsGained None now holds = now ≡ None
IsGained (Some sent) now holds = ((held : List ℕ) × (holds ≡ Some held) × (now ≡ Some (sent ++ held ∷ [])))

-- a list, if it is told, has nothing
abbrev pub IsEmpty : {A : Type 0} → Option (List A) → Type 0
IsEmpty told = told ≡ option_map (λ _. []) told

-- so many, if that is told, and more than none
abbrev pub IsLent : Option ℕ → Type 0
IsLent None = Unit {0}
IsLent (Some n) = 0 < n

-- none of what was handed out is out, if that is told
abbrev pub IsNoneOut : Option ℕ → Type 0
IsNoneOut None = Unit {0}
IsNoneOut (Some n) = n ≡ 0

-- the first caller is handed out, and where none is left one without links
abbrev pub IsCaller : Option (List (List (List ℕ))) → Option (List (List (List ℕ))) → Option (List (List ℕ)) → Type 0
IsCaller None now links = now ≡ None
IsCaller (Some []) now links = (links ≡ Some []) × (now ≡ Some [])
IsCaller (Some (first ∷ rest)) now links = (links ≡ Some first) × (now ≡ Some rest)
