-- All properties with their effective values.
use Rattle.std.proofs.Common.{◌≡◌, ◌∷◌, [], ℕ, List, length, take, refl, ap, ◌∙◌}
use Rattle.std.specs.Prelude.{map}
use Rattle.property_manager.specs.declared.names.PropertyName.{PropertyName}
use Rattle.property_manager.specs.declared.settings.Property.{Property}
use Rattle.property_manager.specs.Levels.{all_effective, effective, over, valued}
use Rattle.property_manager.specs.Names.{all}

-- a list up to its length
pub whole : {A : Type 0} (xs : List A) (n : ℕ) → n ≡ length xs → take n xs ≡ xs
whole xs n e = ap (λ m. take m xs) e ∙ go xs where
  go : {B : Type 0} (ys : List B) → take (length ys) ys ≡ ys
  go [] = refl
  go (y ∷ ys) = ap (λ zs. y ∷ zs) (go ys)

pub all_valued : (levels : List (List Property)) → map (λ name. valued name (effective levels name)) all ≡ all_effective levels
unfolding all_effective
all_valued levels = refl

-- levels where nothing is set change nothing
pub of_defaults : (defaults : List Property) → all_effective (defaults ∷ [] ∷ [] ∷ [] ∷ []) ≡ all_effective (defaults ∷ [])
unfolding all_effective over
of_defaults defaults = refl

pub of_type : (defaults by_type : List Property) → all_effective (defaults ∷ by_type ∷ [] ∷ [] ∷ []) ≡ all_effective (defaults ∷ by_type ∷ [])
unfolding all_effective over
of_type defaults by_type = refl
