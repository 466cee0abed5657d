-- Hosts that are chosen one after another.
use Rattle.std.proofs.Common.{◌≡◌, ℕ, zero, suc, ◌+◌, ◌<◌, ◌≤◌, arith, Bool, true, false, cond, List, [], ◌∷◌, ◌++◌, length, take, Option, Some, None, refl, sym, ap, subst, ◌∙◌, append-nil}
use Rattle.std.specs.Prelude.{◌==◌, ◌||◌, nat_eq, slice_index_or}
use Rattle.std.specs.List.{AllByRecursion, IsDistinct, filter}
use Rattle.std.specs.Option.{unwrap_or}
use Rattle.std.proofs.Math.Seq.{take-suc}
use Rattle.std.proofs.lemmas.List.{take_all}
use Rattle.std.proofs.lemmas.List.Elements.{filter-append}
use Rattle.std.proofs.lemmas.Map.Keys.{IsDistinct-head, IsDistinct-tail}
use Rattle.ft_base.specs.Members.{is_member}
use Rattle.script_world.specs.World.{World}
use Rattle.world_management.specs.Membership.{first_fitting, fits}
use Rattle.world_management.proofs.MakingLemmas.{or_both}

-- ---- the first so many, and one more behind them

take_short : (n : ℕ) (ys : List ℕ) (x : ℕ) → length (take n ys) < n → take n (ys ++ x ∷ []) ≡ take n ys ++ x ∷ []
take_short zero ys x short = absurd (omega (arith, short))
take_short (suc n) [] x short = ap (λ (rest : List ℕ). x ∷ rest) (take_all n [] (omega arith))
take_short (suc n) (y ∷ ys) x short = ap (λ (rest : List ℕ). y ∷ rest) (take_short n ys x (omega (arith, short)))

take_filled : (n : ℕ) (ys : List ℕ) (x : ℕ) → n ≤ length (take n ys) → take n (ys ++ x ∷ []) ≡ take n ys
take_filled zero ys x filled = refl
take_filled (suc n) [] x filled = absurd (omega (arith, filled))
take_filled (suc n) (y ∷ ys) x filled = ap (λ (rest : List ℕ). y ∷ rest) (take_filled n ys x (omega (arith, filled)))

module _ (p : ℕ → Bool) (n : ℕ) (xs : List ℕ) (i x : ℕ) (inside : i < length xs) (is : x ≡ slice_index_or xs i 0) (chosen : List ℕ)
    (so : chosen ≡ take n (filter p (take i xs))) where
  next_is : (b : Bool) → p x ≡ b → take n (filter p (take (i + 1) xs)) ≡ take n (filter p (take i xs) ++ cond b (x ∷ []) [])
  next_is b test =
      ap (λ (k : ℕ). take n (filter p (take k xs))) (let e : i + 1 ≡ suc i = omega arith in e)
      ∙ ap (λ (ys : List ℕ). take n (filter p ys)) (take-suc xs i 0 inside)
      ∙ ap (λ (z : ℕ). take n (filter p (take i xs ++ z ∷ []))) (sym is)
      ∙ ap (take n) (filter-append p (take i xs) (x ∷ []))
      ∙ ap (λ (c : Bool). take n (filter p (take i xs) ++ cond c (x ∷ []) [])) test

  short_so : length chosen < n → length (take n (filter p (take i xs))) < n
  short_so short = subst (λ (ys : List ℕ). length ys < n) so short

  -- it passes, and there is room
  pub one_more : length chosen < n → p x ≡ true → chosen ++ x ∷ [] ≡ take n (filter p (take (i + 1) xs))
  one_more short passes =
      ap (λ (ys : List ℕ). ys ++ x ∷ []) so
      ∙ sym (next_is true passes ∙ take_short n (filter p (take i xs)) x (short_so short))

  -- it doesn't pass
  pub passed_over : p x ≡ false → chosen ≡ take n (filter p (take (i + 1) xs))
  passed_over fails = so ∙ sym (next_is false fails ∙ ap (take n) (append-nil (filter p (take i xs))))

  -- there are as many as can be
  pub no_room : n ≤ length chosen → chosen ≡ take n (filter p (take (i + 1) xs))
  no_room filled = go (p x) refl
    where
      go : (b : Bool) → p x ≡ b → chosen ≡ take n (filter p (take (i + 1) xs))
      go false fails = passed_over fails
      go true passes =
          so ∙ sym (next_is true passes ∙ take_filled n (filter p (take i xs)) x (subst (λ (ys : List ℕ). n ≤ length ys) so filled))

-- ---- a host that is new

fresh_taken : (x n : ℕ) (ys : List ℕ) → is_member x ys ≡ false → is_member x (take n ys) ≡ false
fresh_taken x zero ys none = refl
fresh_taken x (suc n) [] none = refl
fresh_taken x (suc n) (y ∷ ys) none = go (y == x) none (fresh_taken x n ys)
  where
    go : (b : Bool) → (b || is_member x ys) ≡ false → (is_member x ys ≡ false → is_member x (take n ys) ≡ false) → (b || is_member x (take n ys)) ≡ false
    go true e rest = absurd cc
    go false e rest = rest e

fresh_filtered : (p : ℕ → Bool) (x : ℕ) (ys : List ℕ) → is_member x ys ≡ false → is_member x (filter p ys) ≡ false
fresh_filtered p x [] none = refl
fresh_filtered p x (y ∷ ys) none = go (y == x) refl none (fresh_filtered p x ys)
  where
    kept : (c : Bool) → (y == x) ≡ false → is_member x (filter p ys) ≡ false → is_member x (cond c (y ∷ filter p ys) (filter p ys)) ≡ false
    kept true other rest = or_both (y == x) _ other rest
    kept false other rest = rest

    go : (b : Bool) → (y == x) ≡ b → (b || is_member x ys) ≡ false → (is_member x ys ≡ false → is_member x (filter p ys) ≡ false) →
        is_member x (cond (p y) (y ∷ filter p ys) (filter p ys)) ≡ false
    go true same e rest = absurd cc
    go false other e rest = kept (p y) other (rest e)

apart_at : (y : ℕ) (ys : List ℕ) (i : ℕ) → AllByRecursion (λ z. nat_eq y z ≡ false) ys → i < length ys → (y == slice_index_or ys i 0) ≡ false
apart_at y [] i all inside = absurd (omega (arith, inside))
apart_at y (z ∷ ys) zero all inside = all.0
apart_at y (z ∷ ys) (suc i) all inside = apart_at y ys i all.1 (omega (arith, inside))

fresh_at : (xs : List ℕ) (i : ℕ) → IsDistinct nat_eq xs → i < length xs → is_member (slice_index_or xs i 0) (take i xs) ≡ false
fresh_at [] i distinct inside = absurd (omega (arith, inside))
fresh_at (x ∷ xs) zero distinct inside = refl
fresh_at (x ∷ xs) (suc i) distinct inside =
    or_both (x == slice_index_or xs i 0) _ (apart_at x xs i (IsDistinct-head nat_eq x xs distinct) (omega (arith, inside)))
    (fresh_at xs i (IsDistinct-tail nat_eq x xs distinct) (omega (arith, inside)))

-- none of those that are chosen is the next
pub is_new : (p : ℕ → Bool) (n : ℕ) (xs : List ℕ) (i x : ℕ) (chosen : List ℕ) → IsDistinct nat_eq xs → i < length xs → x ≡ slice_index_or xs i 0 →
    chosen ≡ take n (filter p (take i xs)) → is_member x chosen ≡ false
is_new p n xs i x chosen distinct inside is so =
    ap (is_member x) so
    ∙ fresh_taken x n (filter p (take i xs)) (fresh_filtered p x (take i xs)
    (ap (λ (z : ℕ). is_member z (take i xs)) is ∙ fresh_at xs i distinct inside))

-- ---- all of them

pub none_fit : (w : World) (members : List ℕ) (n : ℕ) (listed : Option (List ℕ)) → listed ≡ None → [] ≡ first_fitting w members n (unwrap_or listed [])
unfolding first_fitting
none_fit w members n listed none =
    sym (ap (λ (o : Option (List ℕ)). take n (filter (fits w members) (unwrap_or o []))) none ∙ take_all n [] (omega arith))

pub all_fit : (w : World) (members : List ℕ) (n : ℕ) (listed : Option (List ℕ)) (xs : List ℕ) (i : ℕ) (chosen : List ℕ) → listed ≡ Some xs → length xs ≤ i →
    chosen ≡ take n (filter (fits w members) (take i xs)) → chosen ≡ first_fitting w members n (unwrap_or listed [])
unfolding first_fitting
all_fit w members n listed xs i chosen some past so =
    so ∙ ap (λ (ys : List ℕ). take n (filter (fits w members) ys)) (take_all i xs past)
    ∙ sym (ap (λ (o : Option (List ℕ)). take n (filter (fits w members) (unwrap_or o []))) some)
