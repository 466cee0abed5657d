-- What memchr finds is the place of the first zero byte.
use Rattle.std.proofs.Common.{◌≡◌, ℕ, zero, suc, ◌<◌, Bool, true, false, List, [], ◌∷◌, length, get_or, Option, Some, None, refl, sym, ap, ◌∙◌, arith}
use Rattle.std.specs.List.{position, position_or_len}
use Rattle.std.proofs.lemmas.Bool.{false_from_ne_true, cond_below, cond_above}
use Rattle.memchr.specs.Find.{IsFirstByte, is_byte}
use Rattle.ft_base.specs.Text.{zero_place}

module _ (test : ℕ → Bool) where
  stops : (xs : List ℕ) (k : ℕ) → k < length xs → ((j : ℕ) → j < k → test (get_or xs j 0) ≡ false) → test (get_or xs k 0) ≡ true
      → position_or_len test xs ≡ k
  stops [] k l before here = absurd (omega (arith, l))
  stops (x ∷ xs) zero l before here = rw here refl
  stops (x ∷ xs) (suc k) l before here =
      let rest = stops xs k (omega (arith, l)) (λ j m. before (suc j) (omega (arith, m))) here in
      rw (before zero (omega arith)) (omega (arith, rest))

  runs_out : (xs : List ℕ) → ((j : ℕ) → j < length xs → test (get_or xs j 0) ≡ false) → position_or_len test xs ≡ length xs
  runs_out [] none = refl
  runs_out (x ∷ xs) none =
      let rest = runs_out xs (λ j m. none (suc j) (omega (arith, m))) in
      rw (none zero (omega arith)) (omega (arith, rest))

  found : (xs : List ℕ) (r : Option ℕ) → IsFirstByte test xs r → r ≡ position test xs
  found xs None h =
      let end = runs_out xs (λ j l. false_from_ne_true (test (get_or xs j 0)) (h j (omega arith) l)) in
      cond_above (position_or_len test xs) (length xs) (Some (position_or_len test xs)) None None (omega (arith, end)) refl
  found xs (Some k) h =
      let here = stops xs k h.0.high (λ j l. false_from_ne_true (test (get_or xs j 0)) (h.0.before j (omega arith) l)) h.1 in
      ap Some (sym here) ∙ cond_below (position_or_len test xs) (length xs) (Some (position_or_len test xs)) None (omega (arith, here, h.0.high))

pub first_is_place : (text : List ℕ) (r : Option ℕ) → IsFirstByte (is_byte 0) text r → r ≡ zero_place text
first_is_place text r h = found (is_byte 0) text r h
