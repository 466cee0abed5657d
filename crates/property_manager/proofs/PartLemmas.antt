-- The parts of a text, by the first place at which it is cut.
use Rattle.std.proofs.Common.{◌≡◌, ◌+◌, ◌∷◌, [], ℕ, Bool, true, false, cond, List, Some, None, take, drop, length, arith, refl, ap, subst, ◌∙◌}
use Rattle.std.specs.Prelude.{nat_lt, not, position}
use Rattle.std.specs.List.{onto_first, position_or_len, slice_split}
use Rattle.std.proofs.lemmas.List.Splits.{slice_split-cons_no, slice_split_first}

module _ {A : Type 0} (p : A → Bool) where
  -- the first part is what is before it
  pub cut : (xs : List A) (place : ℕ) → position p xs ≡ Some place → slice_split p xs ≡ take place xs ∷ slice_split p (drop (place + 1) xs)
  cut [] place at = absurd cc
  cut (x ∷ xs) place at = go (nat_lt (position_or_len p (x ∷ xs)) (length (x ∷ xs))) refl at
    where
      go : (b : Bool) → nat_lt (position_or_len p (x ∷ xs)) (length (x ∷ xs)) ≡ b → cond b (Some (position_or_len p (x ∷ xs))) None ≡ Some place
          → slice_split p (x ∷ xs) ≡ take place (x ∷ xs) ∷ slice_split p (drop (place + 1) (x ∷ xs))
      go false past e = absurd cc
      go true within e =
          let here : position_or_len p (x ∷ xs) ≡ place = cc in
          subst (λ (n : ℕ). slice_split p (x ∷ xs) ≡ take n (x ∷ xs) ∷ slice_split p (drop (n + 1) (x ∷ xs))) here
          (slice_split_first p (x ∷ xs) x (grind (arith, within)))

  nowhere : (xs : List A) → nat_lt (position_or_len p xs) (length xs) ≡ false → slice_split p xs ≡ xs ∷ []
  nowhere [] past = refl
  nowhere (x ∷ xs) past = go (p x) refl past (λ e. nowhere xs e)
    where
      go : (b : Bool) → p x ≡ b → nat_lt (cond (not b) (1 + position_or_len p xs) 0) (length (x ∷ xs)) ≡ false
          → (nat_lt (position_or_len p xs) (length xs) ≡ false → slice_split p xs ≡ xs ∷ []) → slice_split p (x ∷ xs) ≡ (x ∷ xs) ∷ []
      go true hit n rest = absurd (grind (arith, n))
      go false miss n rest = slice_split-cons_no p x xs miss ∙ ap (onto_first x) (rest (grind (arith, n)))

  -- the only part is the whole text
  pub whole : (xs : List A) → position p xs ≡ None → slice_split p xs ≡ xs ∷ []
  whole xs none = go (nat_lt (position_or_len p xs) (length xs)) refl none
    where
      go : (b : Bool) → nat_lt (position_or_len p xs) (length xs) ≡ b → cond b (Some (position_or_len p xs)) None ≡ None → slice_split p xs ≡ xs ∷ []
      go true within e = absurd cc
      go false past e = nowhere xs past
