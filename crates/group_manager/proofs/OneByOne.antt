-- Members that are passed one by one.
use Rattle.std.proofs.Common.{◌≡◌, ℕ, zero, suc, ◌<◌, ◌≤◌, ◌||◌, Bool, true, false, cond, List, [], ◌∷◌, ◌++◌, length, take, refl, subst, eqb-true, arith}
use Rattle.std.specs.Prelude.{nat_eq, slice_index_or}
use Rattle.std.specs.List.{All, filter}
use Rattle.std.proofs.lemmas.Bool.Decides.{nat_tests}
use Rattle.ft_base.specs.Members.{is_member, AreDifferent}

or_parts : (a b : Bool) → (a || b) ≡ false → (a ≡ false) × (b ≡ false)
or_parts true b e = absurd cc
or_parts false b e = (refl, e)

or_false : (a b : Bool) → a ≡ false → b ≡ false → (a || b) ≡ false
or_false true b e f = absurd cc
or_false false b e f = f

eq_swap : (m n : ℕ) → nat_eq m n ≡ false → nat_eq n m ≡ false
eq_swap m n e = grind (arith, nat_tests)

lacks_more : (host x : ℕ) (xs : List ℕ) → is_member host xs ≡ false → nat_eq x host ≡ false → is_member host (xs ++ x ∷ []) ≡ false
lacks_more host x [] new differs = or_false (nat_eq x host) false differs refl
lacks_more host x (y ∷ xs) new differs =
    let both = or_parts (nat_eq y host) (is_member host xs) new in
    or_false (nat_eq y host) (is_member host (xs ++ x ∷ [])) both.0 (lacks_more host x xs both.1 differs)

pub joined_differ : (xs : List ℕ) (host : ℕ) → AreDifferent xs → is_member host xs ≡ false → AreDifferent (xs ++ host ∷ [])
joined_differ [] host all new = (refl, tt)
joined_differ (x ∷ xs) host all new =
    let both = or_parts (nat_eq x host) (is_member host xs) new in
    (lacks_more x host xs all.0 (eq_swap x host both.0), joined_differ xs host all.1 both.1)

-- an element isn't what the list lacks
not_at : (host : ℕ) (xs : List ℕ) (i : ℕ) → is_member host xs ≡ false → i < length xs → nat_eq (slice_index_or xs i 0) host ≡ false
not_at host [] i new lt = absurd (omega (arith, lt))
not_at host (y ∷ xs) zero new lt = (or_parts (nat_eq y host) (is_member host xs) new).0
not_at host (y ∷ xs) (suc i) new lt = not_at host xs i (or_parts (nat_eq y host) (is_member host xs) new).1 (omega (arith, lt))

-- one that differs from all others isn't among those before it
pub new_before : (p : ℕ → Bool) (xs : List ℕ) (i : ℕ) → AreDifferent xs → i < length xs → is_member (slice_index_or xs i 0) (filter p (take i xs)) ≡ false
new_before p [] i all lt = absurd (omega (arith, lt))
new_before p (y ∷ xs) zero all lt = refl
new_before p (y ∷ xs) (suc i) all lt = go (p y) (new_before p xs i all.1 (omega (arith, lt)))
  where
    go : (b : Bool) → is_member (slice_index_or xs i 0) (filter p (take i xs)) ≡ false →
        is_member (slice_index_or xs i 0) (cond b (y ∷ filter p (take i xs)) (filter p (take i xs))) ≡ false
    go true rest =
        or_false (nat_eq y (slice_index_or xs i 0)) (is_member (slice_index_or xs i 0) (filter p (take i xs)))
        (eq_swap (slice_index_or xs i 0) y (not_at y xs i all.0 (omega (arith, lt)))) rest
    go false rest = rest

pub few_kept : (p : ℕ → Bool) (xs : List ℕ) (i : ℕ) → length (filter p (take i xs)) ≤ i
few_kept p [] zero = omega arith
few_kept p [] (suc i) = omega arith
few_kept p (y ∷ xs) zero = omega arith
few_kept p (y ∷ xs) (suc i) = go (p y) (few_kept p xs i)
  where
    go : (b : Bool) → length (filter p (take i xs)) ≤ i → length (cond b (y ∷ filter p (take i xs)) (filter p (take i xs))) ≤ suc i
    go true rest = omega (arith, rest)
    go false rest = omega (arith, rest)

-- what holds of each element holds of a member
pub all_member : (P : ℕ → Type 0) (host : ℕ) (xs : List ℕ) → All P xs → is_member host xs ≡ true → P host
all_member P host [] all is = absurd cc
all_member P host (y ∷ xs) all is = go (all_member P host xs (λ k d lt. all (suc k) d (omega (arith, lt)))) (nat_eq y host) refl is
  where
    go : (is_member host xs ≡ true → P host) → (b : Bool) → nat_eq y host ≡ b → (b || is_member host xs) ≡ true → P host
    go rest true same _ = subst P (eqb-true y host same) (all zero y (omega arith))
    go rest false differs there = rest there
