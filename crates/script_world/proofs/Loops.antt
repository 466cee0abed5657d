-- A list of which each element is changed, one after another.
use Rattle.std.proofs.Common.{◌≡◌, ℕ, zero, suc, ◌+◌, ◌<◌, arith, List, [], ◌∷◌, ◌++◌, length, take, drop, get_or, Some, refl, sym, ap, ◌∙◌, inl, inr}
use Rattle.std.specs.Prelude.{map, slice_get, slice_set}
use Rattle.std.proofs.lemmas.List.{drop_all}
use Rattle.group_model.specs.declared.events.Event.{Event}
use Rattle.script_groups.specs.Acting.{poisoned}
use Rattle.script_groups.specs.Groups.{ScriptGroup, acted}
use Rattle.script_world.specs.Worlds.{AreOrHave}

module _ {A : Type 0} (f : A → A) where
  abbrev so_far : List A → ℕ → List A
  so_far xs i = map f (take i xs) ++ drop i xs

  count : (xs : List A) (i : ℕ) → length (so_far xs i) ≡ length xs
  count [] zero = refl
  count [] (suc i) = refl
  count (x ∷ xs) zero = refl
  count (x ∷ xs) (suc i) = ap suc (count xs i)

  untouched : (xs : List A) (i : ℕ) → slice_get (so_far xs i) i ≡ slice_get xs i
  untouched [] zero = refl
  untouched [] (suc i) = refl
  untouched (x ∷ xs) zero = refl
  untouched (x ∷ xs) (suc i) = untouched xs i

  more : (xs : List A) (i : ℕ) (x : A) → slice_get xs i ≡ Some x → slice_set (so_far xs i) i (f x) ≡ so_far xs (suc i)
  more [] zero x at = refl
  more [] (suc i) x at = refl
  more (y ∷ xs) zero x at = ap (λ (z : A). f z ∷ xs) (let e : x ≡ y = cc in e)
  more (y ∷ xs) (suc i) x at = ap (λ (zs : List A). f y ∷ zs) (more xs i x at)

  -- the element at hand is still the old one
  pub at_hand : (xs ys : List A) (i : ℕ) (x d : A) → ys ≡ map f (take i xs) ++ drop i xs → i < length ys → x ≡ get_or ys i d → slice_get xs i ≡ Some x
  at_hand xs ys i x d so inside is =
      sym (untouched xs i) ∙ ap (λ (zs : List A). slice_get zs i) (sym so) ∙ read ys i x d inside is
    where
      read : (zs : List A) (k : ℕ) (z e : A) → k < length zs → z ≡ get_or zs k e → slice_get zs k ≡ Some z
      read [] k z e h same = absurd (omega arith)
      read (w ∷ zs) zero z e h same = ap Some (sym same)
      read (w ∷ zs) (suc k) z e h same = read zs k z e (omega arith) same

  -- it is changed
  pub one_more : (xs ys : List A) (i : ℕ) (x new : A) → ys ≡ map f (take i xs) ++ drop i xs → slice_get xs i ≡ Some x → new ≡ f x →
      slice_set ys i new ≡ map f (take (i + 1) xs) ++ drop (i + 1) xs
  one_more xs ys i x new so at is =
      ap (λ (zs : List A). slice_set zs i new) so ∙ ap (slice_set (so_far xs i) i) is ∙ more xs i x at
      ∙ ap (so_far xs) (let e : suc i ≡ i + 1 = omega arith in e)

-- ---- as it is written back

length_set : {A : Type 0} (xs : List A) (i : ℕ) (x : A) → length (slice_set xs i x) ≡ length xs
length_set [] i x = refl
length_set (y ∷ xs) zero x = refl
length_set (y ∷ xs) (suc i) x = ap suc (length_set xs i x)

pub same_count : {A : Type 0} (xs : List A) (i : ℕ) (x : A) → length (slice_set xs i x) ≡ length xs
same_count = length_set

take_all : {A : Type 0} (xs : List A) (n : ℕ) → n ≡ length xs → take n (xs ++ []) ≡ xs
take_all [] zero e = refl
take_all [] (suc n) e = refl
take_all (x ∷ xs) zero e = absurd (omega arith)
take_all (x ∷ xs) (suc n) e = ap (λ ys. x ∷ ys) (take_all xs n (omega arith))

-- a list of the same length takes another's place
pub written_back : {A : Type 0} (xs ys : List A) (n : ℕ) → n ≡ length xs → length ys ≡ length xs → take n (ys ++ drop (length ys) xs) ≡ ys
written_back xs ys n count same =
    ap (λ zs. take n (ys ++ zs)) (drop_all (length ys) xs (omega (arith, same))) ∙ take_all ys n (count ∙ sym same)

-- ---- groups, one of which was poisoned

all_same : (gs : List ScriptGroup) (e : Event) → AreOrHave gs e gs
all_same [] e = tt
all_same (g ∷ gs) e = (inl refl, all_same gs e)

pub partly_at : (xs : List ScriptGroup) (e : Event) (i : ℕ) (x : ScriptGroup) → slice_get xs i ≡ Some x →
    AreOrHave xs e (slice_set (map (λ g. acted g e) (take i xs) ++ drop i xs) i (poisoned x))
partly_at [] e zero x at = absurd cc
partly_at [] e (suc i) x at = absurd cc
partly_at (y ∷ xs) e zero x at = (inr (inr (ap poisoned (let same : x ≡ y = cc in same))), all_same xs e)
partly_at (y ∷ xs) e (suc i) x at = (inr (inl refl), partly_at xs e i x at)
