-- The elements of lists that are filtered, mapped, joined and cut, by their places.
use Rattle.std.proofs.Common.{◌≡◌, ℕ, zero, suc, ◌+◌, ◌≤◌, ◌⊎◌, inl, inr, Bool, true, false, cond, List, [], ◌∷◌, ◌++◌, length, map, Option, Some, None, refl, sym, ap, subst, ◌∙◌, arith}
use Rattle.std.specs.Prelude.{slice_get, drop}
use Rattle.std.specs.List.{filter, find}
use Rattle.ft_base.specs.Journal.{last_place, later_or}

module _ {X : Type 0} where
  -- where a test holds
  pub record Passes (test : X → Bool) (xs : List X) (i : ℕ) : Type 0 where
    pub value : X
    pub at : slice_get xs i ≡ Some value
    pub true-there : test value ≡ true

  later : (test : X → Bool) (x : X) (xs : List X) (i : ℕ) → Passes test xs i → Passes test (x ∷ xs) (suc i)
  later test x xs i p = record { value = p.value; at = p.at; true-there = p.true-there }

  pub last_passes : (test : X → Bool) (xs : List X) (i : ℕ) → last_place test xs ≡ Some i → Passes test xs i
  unfolding last_place
  last_passes test [] i h = absurd cc
  last_passes test (x ∷ xs) i h = go (last_passes test xs) (last_place test xs) refl (test x) refl h
    where
      go : ((j : ℕ) → last_place test xs ≡ Some j → Passes test xs j) → (o : Option ℕ) → last_place test xs ≡ o → (b : Bool) → test x ≡ b
          → later_or o b ≡ Some i → Passes test (x ∷ xs) i
      go rest None e true t h = let first : 0 ≡ i = cc in subst (λ (n : ℕ). Passes test (x ∷ xs) n) first (record { value = x; at = refl; true-there = t })
      go rest None e false t h = absurd cc
      go rest (Some j) e b t h = let next : suc j ≡ i = cc in subst (λ (n : ℕ). Passes test (x ∷ xs) n) next (later test x xs j (rest j e))

  pub passes_nowhere : (test : X → Bool) (xs : List X) (i : ℕ) (x : X) → last_place test xs ≡ None → slice_get xs i ≡ Some x → test x ≡ false
  unfolding last_place
  passes_nowhere test [] i x h g = absurd cc
  passes_nowhere test (y ∷ xs) zero x h g = go (last_place test xs) (test y) refl h
    where
      same : y ≡ x
      same = cc

      go : (o : Option ℕ) → (b : Bool) → test y ≡ b → later_or o b ≡ None → test x ≡ false
      go None true t h = absurd cc
      go None false t h = ap test (sym same) ∙ t
      go (Some j) b t h = absurd cc
  passes_nowhere test (y ∷ xs) (suc i) x h g = passes_nowhere test xs i x (none (last_place test xs) (test y) h) g
    where
      none : (o : Option ℕ) (b : Bool) → later_or o b ≡ None → o ≡ None
      none None b h = refl
      none (Some j) b h = absurd cc

  pub found_passes : (test : X → Bool) (xs : List X) (x : X) → find test xs ≡ Some x → (i : ℕ) × (slice_get xs i ≡ Some x) × (test x ≡ true)
  found_passes test [] x h = absurd cc
  found_passes test (y ∷ xs) x h = go (found_passes test xs x) (test y) refl h
    where
      go : (find test xs ≡ Some x → (i : ℕ) × (slice_get xs i ≡ Some x) × (test x ≡ true)) → (b : Bool) → test y ≡ b → cond b (Some y) (find test xs) ≡ Some x
          → (i : ℕ) × (slice_get (y ∷ xs) i ≡ Some x) × (test x ≡ true)
      go rest true t h = let same : y ≡ x = cc in (zero, h, ap test (sym same) ∙ t)
      go rest false t h = let r = rest h in (suc r.0, r.1, r.2)

  pub found_nowhere : (test : X → Bool) (xs : List X) (i : ℕ) (x : X) → find test xs ≡ None → slice_get xs i ≡ Some x → test x ≡ false
  found_nowhere test [] i x h g = absurd cc
  found_nowhere test (y ∷ xs) i x h g = go (found_nowhere test xs) (test y) refl h i g
    where
      go : ((j : ℕ) (z : X) → find test xs ≡ None → slice_get xs j ≡ Some z → test z ≡ false) → (b : Bool) → test y ≡ b → cond b (Some y) (find test xs) ≡ None
          → (j : ℕ) → slice_get (y ∷ xs) j ≡ Some x → test x ≡ false
      go rest true t h j g = absurd cc
      go rest false t h zero g = let same : y ≡ x = cc in ap test (sym same) ∙ t
      go rest false t h (suc j) g = rest j x h g

  -- ---- a filter

  pub from_filter : (p : X → Bool) (xs : List X) (i : ℕ) (x : X) → slice_get (filter p xs) i ≡ Some x → (j : ℕ) × (slice_get xs j ≡ Some x) × (p x ≡ true)
  from_filter p [] i x h = absurd cc
  from_filter p (y ∷ xs) i x h = go (from_filter p xs) (p y) refl i h
    where
      go : ((j : ℕ) (z : X) → slice_get (filter p xs) j ≡ Some z → (k : ℕ) × (slice_get xs k ≡ Some z) × (p z ≡ true)) → (b : Bool) → p y ≡ b → (j : ℕ)
          → slice_get (cond b (y ∷ filter p xs) (filter p xs)) j ≡ Some x → (k : ℕ) × (slice_get (y ∷ xs) k ≡ Some x) × (p x ≡ true)
      go rest true t zero h = let same : y ≡ x = cc in (zero, h, ap p (sym same) ∙ t)
      go rest true t (suc j) h = let r = rest j x h in (suc r.0, r.1, r.2)
      go rest false t j h = let r = rest j x h in (suc r.0, r.1, r.2)

  pub to_filter : (p : X → Bool) (xs : List X) (i : ℕ) (x : X) → slice_get xs i ≡ Some x → p x ≡ true → (j : ℕ) × (slice_get (filter p xs) j ≡ Some x)
  to_filter p [] i x h t = absurd cc
  to_filter p (y ∷ xs) zero x h t =
      let same : y ≡ x = cc in
      let passes : p y ≡ true = ap p same ∙ t in
      (zero, ap (λ b. slice_get (cond b (y ∷ filter p xs) (filter p xs)) zero) passes ∙ ap Some same)
  to_filter p (y ∷ xs) (suc i) x h t = go (to_filter p xs i x h t) (p y) refl
    where
      go : (j : ℕ) × (slice_get (filter p xs) j ≡ Some x) → (b : Bool) → p y ≡ b → (j : ℕ) × (slice_get (cond b (y ∷ filter p xs) (filter p xs)) j ≡ Some x)
      go r true e = (suc r.0, r.1)
      go r false e = r

  -- ---- one more at the end

  pub of_push : (xs : List X) (x y : X) (i : ℕ) → slice_get (xs ++ x ∷ []) i ≡ Some y → (slice_get xs i ≡ Some y) ⊎ ((i ≡ length xs) × (x ≡ y))
  of_push [] x y zero h = inr (refl, cc)
  of_push [] x y (suc i) h = absurd cc
  of_push (z ∷ xs) x y zero h = inl h
  of_push (z ∷ xs) x y (suc i) h = elim (of_push xs x y i h) [ inl p ↦ inl p | inr p ↦ inr (ap suc p.0, p.1) ]

  pub push_keeps : (xs : List X) (x y : X) (i : ℕ) → slice_get xs i ≡ Some y → slice_get (xs ++ x ∷ []) i ≡ Some y
  push_keeps [] x y i h = absurd cc
  push_keeps (z ∷ xs) x y zero h = h
  push_keeps (z ∷ xs) x y (suc i) h = push_keeps xs x y i h

  pub push_last : (xs : List X) (x : X) → slice_get (xs ++ x ∷ []) (length xs) ≡ Some x
  push_last [] x = refl
  push_last (z ∷ xs) x = push_last xs x

  -- ---- without the first ones

  pub drop_push : (n : ℕ) (xs : List X) (x : X) → n ≤ length xs → drop n (xs ++ x ∷ []) ≡ drop n xs ++ x ∷ []
  drop_push zero xs x h = refl
  drop_push (suc n) [] x h = absurd (omega (arith, h))
  drop_push (suc n) (y ∷ xs) x h = drop_push n xs x (omega (arith, h))

  pub drop_all : (xs : List X) → [] ≡ drop (length xs) xs
  drop_all [] = refl
  drop_all (x ∷ xs) = drop_all xs

  nothing_at : (i : ℕ) → slice_get {X = X} [] i ≡ None
  nothing_at zero = refl
  nothing_at (suc i) = refl

  pub drop_get : (n : ℕ) (xs : List X) (i k : ℕ) → k ≡ n + i → slice_get (drop n xs) i ≡ slice_get xs k
  drop_get zero xs i k e = ap (λ (j : ℕ). slice_get xs j) (let same : i ≡ k = omega (arith, e) in same)
  drop_get (suc n) [] i k e = nothing_at i ∙ sym (nothing_at k)
  drop_get (suc n) (y ∷ xs) i zero e = absurd (omega (arith, e))
  drop_get (suc n) (y ∷ xs) i (suc k) e = drop_get n xs i k (omega (arith, e))

pub map_get : {X Y : Type 0} (f : X → Y) (xs : List X) (i : ℕ) (y : Y) → slice_get (map f xs) i ≡ Some y → (x : X) × (slice_get xs i ≡ Some x) × (f x ≡ y)
map_get f [] i y h = absurd cc
map_get f (x ∷ xs) zero y h = (x, refl, (let same : f x ≡ y = cc in same))
map_get f (x ∷ xs) (suc i) y h = map_get f xs i y h

pub get_map : {X Y : Type 0} (f : X → Y) (xs : List X) (i : ℕ) (x : X) → slice_get xs i ≡ Some x → slice_get (map f xs) i ≡ Some (f x)
get_map f [] i x h = absurd cc
get_map f (y ∷ xs) zero x h = ap (λ z. Some (f z)) (let same : y ≡ x = cc in same)
get_map f (y ∷ xs) (suc i) x h = get_map f xs i x h
