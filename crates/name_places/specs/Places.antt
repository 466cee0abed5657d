-- At which place of a list each name stands first.
use Rattle.std.specs.Prelude.{◌≡◌, ℕ, List, map, Option, Some, None}
use Rattle.std.specs.List.{position_from}
use Rattle.std.specs.Map.{lookup}
use Rattle.std.specs.Str.{bytes_eq}
use Rattle.std.specs.declared.vec.Vec.{Vec}

-- what a contract sees; callers know of it what the relations below say
pub record Places : Type 0 where
  -- names with their places
  pub rows : List (List ℕ × ℕ)
  -- the name that there is room for
  pub next : Option (List ℕ)

-- the first place at which a name stands
abbrev pub first_place : List ℕ → List (List ℕ) → Option ℕ
first_place name names = position_from (λ n. bytes_eq n name) 0 names

-- each name is filed with its first place, and those that don't stand there aren't filed
abbrev pub AreFiled : List (List ℕ × ℕ) → List (List ℕ) → Type 0
AreFiled rows names = (name : List ℕ) → lookup (bytes_eq name) rows ≡ first_place name names

-- these are the places of the names in this list
abbrev pub ArePlaces : Places → List (List ℕ) → Type 0
ArePlaces p names = AreFiled p.rows names

-- there is room for this name
abbrev pub IsReadyFor : Places → List ℕ → Type 0
IsReadyFor p name = p.next ≡ Some name

abbrev pub ready_for : Places → List ℕ → Places
ready_for p name = record p { next = Some name }

-- ---- how code stands for it

abbrev pub filed : {A : Type 0} → List (Vec ℕ A × ℕ) → List (List ℕ × ℕ)
filed rows = map (λ row. (row.0.items, row.1)) rows

abbrev pub text_of : {A : Type 0} → Option (Vec ℕ A) → Option (List ℕ)
text_of None = None
text_of (Some text) = Some text.items
