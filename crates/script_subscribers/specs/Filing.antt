-- All who ever subscribed, as they are filed by their names.
use Rattle.std.specs.Prelude.{◌≡◌, ℕ, ◌<◌, List, [], map, Option, Some, None}
use Rattle.name_places.specs.Places.{Places}
use Rattle.script_subscribers.specs.declared.named.Named.{Named}

pub record Filed : Type 0 where
  -- in order
  pub all : List Named
  -- the name that there is room for
  pub next : Option (List ℕ)

abbrev pub empty_file : Filed
empty_file = record { all = []; next = None }

abbrev pub names_of : List Named → List (List ℕ)
names_of zs = map (λ (z : Named). z.name) zs

abbrev pub ready_for : Filed → List ℕ → Filed
ready_for f name = record f { next = Some name }

abbrev pub IsReadyFor : Filed → List ℕ → Type 0
IsReadyFor f name = f.next ≡ Some name

-- there is room for the next name among the places, and for one more in the list
abbrev pub HasRoom : Option (List ℕ) → Places → ℕ → ℕ → Type 0
HasRoom None places len capacity = Unit {0}
HasRoom (Some name) places len capacity = (places.next ≡ Some name) × (len < capacity)
