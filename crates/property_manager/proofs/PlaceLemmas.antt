-- The first place at fault, found one place after another.
use Rattle.std.proofs.Common.{◌≡◌, ◌+◌, ◌<◌, ◌∷◌, [], ◌++◌, ℕ, Bool, true, false, cond, List, Option, Some, None, zero, suc, take, drop, length, arith, add-one, refl, sym, ap, ◌∙◌}
use Rattle.std.specs.Prelude.{◌≤◌, slice_get}
use Rattle.std.proofs.Math.Seq.{take-suc, drop-cons}
use Rattle.std.proofs.lemmas.Option.{slice_get_within, get_or_from_slice_get}
use Rattle.property_manager.specs.Judging.{first_place}

take_one_more : {A : Type 0} (xs : List A) (i : ℕ) (x : A) → slice_get xs i ≡ Some x → take (i + 1) xs ≡ take i xs ++ x ∷ []
take_one_more xs i x e =
    rw add-one (take-suc xs i x (slice_get_within xs i x e) ∙ ap (λ y. take i xs ++ y ∷ []) (get_or_from_slice_get xs i x x e))

drop_one_more : {A : Type 0} (xs : List A) (i : ℕ) (x : A) → slice_get xs i ≡ Some x → drop i xs ≡ x ∷ drop (i + 1) xs
drop_one_more xs i x e =
    rw add-one (drop-cons xs i x (slice_get_within xs i x e) ∙ ap (λ y. y ∷ drop (suc i) xs) (get_or_from_slice_get xs i x x e))

length_of_take : {A : Type 0} (xs : List A) (i : ℕ) → i < length xs → length (take i xs) ≡ i
length_of_take [] i h = omega arith
length_of_take (x ∷ xs) zero h = refl
length_of_take (x ∷ xs) (suc i) h = ap suc (length_of_take xs i (omega arith))

opened : {A : Type 0} (test : List A → A → Bool) (before : List A) (x : A) (rest : List A)
    → first_place test before (x ∷ rest) ≡ cond (test before x) (Some (length before)) (first_place test (before ++ x ∷ []) rest)
unfolding first_place
opened test before x rest = refl

-- nothing was looked at yet
pub none_yet : {A : Type 0} (test : List A → A → Bool) (xs : List A) → first_place test [] xs ≡ first_place test (take 0 xs) (drop 0 xs)
none_yet test xs = refl

-- the element at a place isn't at fault
pub passed : {A : Type 0} (test : List A → A → Bool) (xs : List A) (i : ℕ) (x : A) → slice_get xs i ≡ Some x
    → first_place test [] xs ≡ first_place test (take i xs) (drop i xs) → test (take i xs) x ≡ false
    → first_place test [] xs ≡ first_place test (take (i + 1) xs) (drop (i + 1) xs)
passed test xs i x there before fine =
    before ∙ ap (first_place test (take i xs)) (drop_one_more xs i x there) ∙ opened test (take i xs) x (drop (i + 1) xs)
    ∙ ap (λ b. cond b (Some (length (take i xs))) (first_place test (take i xs ++ x ∷ []) (drop (i + 1) xs))) fine
    ∙ ap (λ front. first_place test front (drop (i + 1) xs)) (sym (take_one_more xs i x there))

-- it is
pub found : {A : Type 0} (test : List A → A → Bool) (xs : List A) (i : ℕ) (x : A) → slice_get xs i ≡ Some x
    → first_place test [] xs ≡ first_place test (take i xs) (drop i xs) → test (take i xs) x ≡ true
    → Some i ≡ first_place test [] xs
found test xs i x there before bad =
    sym (before ∙ ap (first_place test (take i xs)) (drop_one_more xs i x there) ∙ opened test (take i xs) x (drop (i + 1) xs)
    ∙ ap (λ b. cond b (Some (length (take i xs))) (first_place test (take i xs ++ x ∷ []) (drop (i + 1) xs))) bad
    ∙ ap Some (length_of_take xs i (slice_get_within xs i x there)))

nothing_left : {A : Type 0} (xs : List A) → drop (length xs) xs ≡ []
nothing_left [] = refl
nothing_left (x ∷ xs) = nothing_left xs

empty : {A : Type 0} (test : List A → A → Bool) (before : List A) → first_place test before [] ≡ None
unfolding first_place
empty test before = refl

-- all were looked at
pub none : {A : Type 0} (test : List A → A → Bool) (xs : List A)
    → first_place test [] xs ≡ first_place test (take (length xs) xs) (drop (length xs) xs) → None ≡ first_place test [] xs
none test xs before =
    sym (before ∙ ap (first_place test (take (length xs) xs)) (nothing_left xs) ∙ empty test (take (length xs) xs))
