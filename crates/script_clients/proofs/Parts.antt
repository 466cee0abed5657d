-- A list in two parts, one behind the other.
use Rattle.std.proofs.Common.{◌≡◌, ℕ, zero, suc, ◌+◌, ◌-◌, ◌<◌, ◌≤◌, Bool, not, cond, ltb, eqb, List, [], ◌∷◌, ◌++◌, ◌||◌, length, drop, Some, None, sym, ap, ◌∙◌, arith}
use Rattle.std.specs.List.{list_any, position, position_or_len}
use Rattle.std.proofs.lemmas.List.{length-append}
use Rattle.std.proofs.lemmas.List.Folds.{list_any-append, prefix_len-append}
use Rattle.std.proofs.lemmas.List.Sums.{prefix_len-le-length}
use Rattle.script_clients.proofs.Taking.{place, is_place, past}

module _ {X : Type 0} where
  dropped : (n : ℕ) (xs ys : List X) → drop n (xs ++ ys) ≡ drop n xs ++ drop (n - length xs) ys
  dropped zero xs ys = let none : 0 - length xs ≡ 0 = omega arith in ap (λ k. xs ++ drop k ys) (sym none)
  dropped (suc n) [] ys = let all : suc n - 0 ≡ suc n = omega arith in ap (λ k. drop k ys) (sym all)
  dropped (suc n) (x ∷ xs) ys =
      let same : suc n - suc (length xs) ≡ n - length xs = omega arith in
      dropped n xs ys ∙ ap (λ k. drop n xs ++ drop k ys) (sym same)

  -- whether any passes from the place n on, which is m in the second part
  pub any_from : (p : X → Bool) (n m : ℕ) (xs ys : List X) → m ≡ n - length xs → (list_any p (drop n xs) || list_any p (drop m ys)) ≡ list_any p (drop n (xs ++ ys))
  any_from p n m xs ys e =
      ap (λ k. list_any p (drop n xs) || list_any p (drop k ys)) e
      ∙ sym (list_any-append p (drop n xs) (drop (n - length xs) ys)) ∙ ap (list_any p) (sym (dropped n xs ys))

is_at : (s i n : ℕ) → s ≡ i → i < n → Some i ≡ cond (ltb s n) (Some s) None
is_at s i n e h = grind arith

is_none : (s n : ℕ) → n ≤ s → None ≡ cond (ltb s n) (Some s) None
is_none s n h = grind arith

in_front : (s a b n : ℕ) → s ≡ cond (eqb a n) (n + b) a → a < n → s ≡ a
in_front s a b n e h = grind arith

behind : (s a b n : ℕ) → s ≡ cond (eqb a n) (n + b) a → a ≤ n → n ≤ a → s ≡ n + b
behind s a b n e le ge = grind arith

module _ {X : Type 0} (p : X → Bool) (xs ys : List X) where
  abbrev all_places : ℕ
  all_places = position_or_len p (xs ++ ys)

  joined : all_places ≡ cond (eqb (place p xs) (length xs)) (length xs + place p ys) (place p xs)
  joined = prefix_len-append (λ x. not (p x)) xs ys

  after : position p xs ≡ None → all_places ≡ length xs + place p ys
  after e = behind all_places (place p xs) (place p ys) (length xs) joined (prefix_len-le-length (λ x. not (p x)) xs) (past p xs e)

  -- the first place of both parts
  pub at_first : (i : ℕ) → position p xs ≡ Some i → Some i ≡ position p (xs ++ ys)
  at_first i e =
      let h = is_place p xs i e in
      is_at all_places i (length (xs ++ ys)) (in_front all_places (place p xs) (place p ys) (length xs) joined h.1 ∙ h.0) (omega (arith, h.0, h.1, length-append xs ys))

  pub at_second : (j : ℕ) → position p xs ≡ None → position p ys ≡ Some j → Some (length xs + j) ≡ position p (xs ++ ys)
  at_second j none e =
      let h = is_place p ys j e in
      is_at all_places (length xs + j) (length (xs ++ ys)) (after none ∙ ap (λ k. length xs + k) h.0) (omega (arith, h.0, h.1, length-append xs ys))

  pub at_neither : position p xs ≡ None → position p ys ≡ None → None ≡ position p (xs ++ ys)
  at_neither none none_behind = is_none all_places (length (xs ++ ys)) (omega (arith, after none, past p ys none_behind, length-append xs ys))
