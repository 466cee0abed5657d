-- A list whose first element that passes is taken out.
use Rattle.std.proofs.Common.{◌≡◌, ℕ, suc, ◌+◌, ◌<◌, ◌≤◌, Bool, true, false, true≢false, not, cond, ltb, List, [], ◌∷◌, ◌++◌, ◌||◌, length, get_or, take, drop, ◌↔◌, IfSome, OnSome, IsSome, Option, Some, None, refl, sym, ap, ◌∙◌, arith}
use Rattle.std.specs.List.{filter, find, list_any, position, position_or_len, remove}
use Rattle.std.proofs.Math.Seq.{split_at, take-append_seam}
use Rattle.std.proofs.lemmas.Bool.{ltb-true, ltb-false}
use Rattle.std.proofs.lemmas.List.{take-append-drop, take_all}
use Rattle.std.proofs.lemmas.List.Elements.{filter-append}
use Rattle.std.proofs.lemmas.List.Folds.{find_at, list_any-append, length-prefix_len}
use Rattle.std.proofs.lemmas.List.Sums.{passes_at_first}
use Rattle.std.proofs.lemmas.Option.{cond_some, slice_get_read, slice_get_past}

module _ {X : Type 0} (p : X → Bool) where
  kept : (b c : Bool) (x : X) (ys zs : List X) → (b || c) ≡ false → (c ≡ false → ys ≡ zs) → x ∷ ys ≡ cond (not b) (x ∷ zs) zs
  kept true c x ys zs e h = absurd cc
  kept false c x ys zs e h = ap (λ (l : List X). x ∷ l) (h e)

  -- where none passes all of them stay
  all_stay : (xs : List X) → list_any p xs ≡ false → xs ≡ filter (λ y. not (p y)) xs
  all_stay [] e = refl
  all_stay (x ∷ xs) e = kept (p x) (list_any p xs) x xs (filter (λ y. not (p y)) xs) e (all_stay xs)

  -- the same where none in front of a place passes, and none from there on
  pub all_stay_around : (n : ℕ) (xs : List X) → list_any p (take n xs) ≡ false → list_any p (drop n xs) ≡ false → xs ≡ filter (λ y. not (p y)) xs
  all_stay_around n xs front back =
      all_stay xs (ap (list_any p) (sym (take-append-drop n xs)) ∙ list_any-append p (take n xs) (drop n xs) ∙ ap (λ b. b || list_any p (drop n xs)) front ∙ back)

  one_before : (b : Bool) (x : X) (xs : List X) (n : ℕ) → p x ≡ b → list_any p (take n xs) ≡ false → list_any p (take (cond (not b) (1 + n) 0) (x ∷ xs)) ≡ false
  one_before true x xs n h e = refl
  one_before false x xs n h e = ap (λ k. list_any p (take k (x ∷ xs))) (let next : 1 + n ≡ suc n = omega arith in next) ∙ ap (λ b. b || list_any p (take n xs)) h ∙ e

  -- none passes in front of the first that does
  none_before : (xs : List X) → list_any p (take (position_or_len p xs) xs) ≡ false
  none_before [] = refl
  none_before (x ∷ xs) = one_before (p x) x xs (position_or_len p xs) refl (none_before xs)

module _ {X : Type 0} (p : X → Bool) (xs : List X) where
  abbrev pub place : ℕ
  place = position_or_len p xs

  pub is_place : (i : ℕ) → position p xs ≡ Some i → (place ≡ i) × (place < length xs)
  is_place i e = let h = cond_some (ltb place (length xs)) place i e in (h.1, ltb-true place (length xs) h.0)

  none_passes : (b : Bool) → cond b (Some place) None ≡ None → b ≡ false
  none_passes true e = absurd cc
  none_passes false e = refl

  pub past : position p xs ≡ None → length xs ≤ place
  past e = ltb-false place (length xs) (none_passes (ltb place (length xs)) e)

  pub none_found : position p xs ≡ None → None ≡ find p xs
  none_found e = sym (find_at p xs ∙ slice_get_past xs place (past e))

  -- and then all of them stay
  pub none_goes : position p xs ≡ None → xs ≡ filter (λ y. not (p y)) xs
  none_goes e = all_stay p xs (ap (list_any p) (sym (take_all place xs (past e))) ∙ none_before p xs)

  -- none that is left passes in front of the first place
  none_in_front : (i : ℕ) → position p xs ≡ Some i → list_any p (take i (remove xs i)) ≡ false
  none_in_front i e =
      let h = is_place i e in
      let seam : take place (take place xs ++ drop (suc place) xs) ≡ take place xs =
      ap (λ k. take k (take place xs ++ drop (suc place) xs)) (sym (length-prefix_len (λ x. not (p x)) xs)) ∙ take-append_seam (take place xs) (drop (suc place) xs) in
      ap (λ k. list_any p (take k (remove xs k))) (sym h.0) ∙ ap (list_any p) seam ∙ none_before p xs

  -- all others that don't pass stay
  others_stay : (i : ℕ) (x : X) → position p xs ≡ Some i → filter (λ y. not (p y)) (remove xs i) ≡ filter (λ y. not (p y)) xs
  others_stay i x e =
      let h = is_place i e in
      let q : X → Bool = λ y. not (p y) in
      let front = take place xs in
      let back = drop (suc place) xs in
      let here = get_or xs place x in
      let passes : p here ≡ true = passes_at_first p xs x h.1 in
      let whole = ap (filter q) (split_at xs place x h.1) ∙ filter-append q front (here ∷ back) in
      let gone : filter q (here ∷ back) ≡ filter q back = ap (λ b. cond (not b) (here ∷ filter q back) (filter q back)) passes in
      ap (λ k. filter q (remove xs k)) (sym h.0) ∙ filter-append q front back ∙ sym (whole ∙ ap (λ l. filter q front ++ l) gone)

  -- What stood at the first place i of a list of n is taken out, which leaves ys. It is what `find` gives, none is
  -- left in front of its place, and all others that don't pass stay.
  pub record Taken (i : ℕ) (r : Option X) (ys : List X) : Type 0 where
    pub first : r ≡ find p xs
    pub front : list_any p (take i ys) ≡ false
    pub others : filter (λ y. not (p y)) ys ≡ filter (λ y. not (p y)) xs

  pub taken : (i n : ℕ) (r : Option X) (ys : List X) → position p xs ≡ Some i → n ≡ length xs → IsSome r ↔ (i < n)
      → IfSome r (λ x. x ≡ get_or xs i x) → OnSome r (ys ≡ remove xs i) → Taken i r ys
  taken i n None ys e long there at left = let h = is_place i e in absurd (true≢false (sym (there.1 (omega (arith, h.0, h.1, long)))))
  taken i n (Some x) ys e long there at left =
      let h = is_place i e in
      record {
        first = sym (find_at p xs ∙ slice_get_read xs (length xs) place x refl h.1 (at ∙ ap (λ k. get_or xs k x) (sym h.0)));
        front = ap (λ l. list_any p (take i l)) left ∙ none_in_front i e;
        others = ap (filter (λ y. not (p y))) left ∙ others_stay i x e;
      }
