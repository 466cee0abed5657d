-- Tests over lists, and over lists that are mapped.
use Rattle.std.proofs.Common.{◌≡◌, ◌∙◌, ◌+◌, ℕ, suc, Bool, true, false, List, [], ◌∷◌, length, map, cond, Option, Some, None, refl, ap, arith, le-ltb, ltb, ltb-false}
use Rattle.std.specs.Prelude.{count_by, position, not}
use Rattle.std.specs.List.{All, fold, prefix_len, list_any}
use Rattle.std.proofs.lemmas.List.Elements.{All-nil, All-cons}
use Rattle.std.proofs.lemmas.List.Sums.{prefix_len-le-length}

-- ---- all elements pass

pub all_pass : {A X : Type 0} (f : A → X) (p : X → Bool) → ((a : A) → p (f a) ≡ true) → (xs : List A) → prefix_len p (map f xs) ≡ length (map f xs)
all_pass f p all [] = refl
all_pass f p all (x ∷ xs) =
    let rest = all_pass f p all xs in
    let more : 1 + prefix_len p (map f xs) ≡ suc (length (map f xs)) = omega arith in
    ap (λ (b : Bool). cond b (1 + prefix_len p (map f xs)) 0) (all x) ∙ more

first_passes : (b : Bool) (rest n : ℕ) → cond b (1 + rest) 0 ≡ suc n → (b ≡ true) × (rest ≡ n)
first_passes true rest n e = (refl, omega arith)
first_passes false rest n e = absurd (omega arith)

all_passed : {X : Type 0} (p : X → Bool) (xs : List X) → prefix_len p xs ≡ length xs → All (λ x. p x ≡ true) xs
all_passed p [] e = All-nil (λ x. p x ≡ true)
all_passed p (x ∷ xs) e =
    let first = first_passes (p x) (prefix_len p xs) (length xs) e in
    All-cons (λ y. p y ≡ true) x xs first.0 (all_passed p xs first.1)

no_place : (b : Bool) (n : ℕ) → cond b (Some n) None ≡ None → b ≡ false
no_place true n e = absurd cc
no_place false n e = refl

-- no place passes, so none does
pub none_passes : {X : Type 0} (p : X → Bool) (xs : List X) → position p xs ≡ None → All (λ x. not (p x) ≡ true) xs
none_passes p xs e =
    let test : ltb (prefix_len (λ x. not (p x)) xs) (length xs) ≡ false = no_place _ _ e in
    let within = prefix_len-le-length (λ x. not (p x)) xs in
    let beyond = ltb-false _ _ test in
    all_passed (λ x. not (p x)) xs (omega arith)

-- ---- lists that are mapped

pub length_mapped : {A X : Type 0} (f : A → X) (xs : List A) → length (map f xs) ≡ length xs
length_mapped f [] = refl
length_mapped f (x ∷ xs) = ap suc (length_mapped f xs)

prefix_mapped : {A X : Type 0} (f : A → X) (p : X → Bool) (xs : List A) → prefix_len p (map f xs) ≡ prefix_len (λ a. p (f a)) xs
prefix_mapped f p [] = refl
prefix_mapped f p (x ∷ xs) = ap (λ (n : ℕ). cond (p (f x)) (1 + n) 0) (prefix_mapped f p xs)

fold_mapped : {A X : Type 0} (f : A → X) (g : ℕ → X → ℕ) (from : ℕ) (xs : List A) → fold g from (map f xs) ≡ fold (λ n a. g n (f a)) from xs
fold_mapped f g from [] = refl
fold_mapped f g from (x ∷ xs) = fold_mapped f g (g from (f x)) xs

pub count_mapped : {A X : Type 0} (f : A → X) (p : X → Bool) (xs : List A) → count_by p (map f xs) ≡ count_by (λ a. p (f a)) xs
count_mapped f p xs = fold_mapped f (λ n x. n + cond (p x) 1 0) 0 xs

abbrev place_at : ℕ → ℕ → Option ℕ
place_at n m = cond (ltb n m) (Some n) None

pub position_mapped : {A X : Type 0} (f : A → X) (p : X → Bool) (xs : List A) → position p (map f xs) ≡ position (λ a. p (f a)) xs
position_mapped f p xs =
    ap (λ (n : ℕ). place_at n (length (map f xs))) (prefix_mapped f (λ x. not (p x)) xs)
    ∙ ap (place_at (prefix_len (λ a. not (p (f a))) xs)) (length_mapped f xs)

-- no element that is mapped passes
pub none_mapped : {A X : Type 0} (f : A → X) (p : X → Bool) → ((a : A) → p (f a) ≡ false) → (xs : List A) → position p (map f xs) ≡ None
none_mapped f p none xs =
    let all = all_pass f (λ x. not (p x)) (λ a. ap not (none a)) xs in
    let test : ltb (prefix_len (λ x. not (p x)) (map f xs)) (length (map f xs)) ≡ false = le-ltb _ _ (omega arith) in
    ap (λ (b : Bool). cond b (Some (prefix_len (λ x. not (p x)) (map f xs))) None) test

pub any_mapped : {A X : Type 0} (f : A → X) (p : X → Bool) → ((a : A) → p (f a) ≡ false) → (xs : List A) → list_any p (map f xs) ≡ false
any_mapped f p none [] = refl
any_mapped f p none (x ∷ xs) = rw (none x) (any_mapped f p none xs)
