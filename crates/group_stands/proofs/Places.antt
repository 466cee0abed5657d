-- The elements of lists that are filtered, mapped, joined and cut, by their places.
use Rattle.std.proofs.Common.{◌≡◌, ℕ, zero, suc, ◌<◌, ◌⊎◌, inl, inr, Bool, true, false, cond, true≢false, List, [], ◌∷◌, ◌++◌, length, take, map, Option, Some, None, refl, sym, ap, subst, ◌∙◌, arith}
use Rattle.std.specs.Prelude.{slice_get, slice_index_or}
use Rattle.std.specs.List.{AllByRecursion, filter, find}
use Rattle.ft_base.specs.Journal.{last_place, later_or}

module _ {X : Type 0} where
  -- ---- a place

  pub get_within : (xs : List X) (n : ℕ) → n < length xs → (x : X) × (slice_get xs n ≡ Some x)
  get_within [] n h = absurd (omega (arith, h))
  get_within (x ∷ xs) zero h = (x, refl)
  get_within (x ∷ xs) (suc n) h = get_within xs n (omega (arith, h))

  pub all_get : (P : X → Type 0) (xs : List X) (n : ℕ) (x : X) → AllByRecursion P xs → slice_get xs n ≡ Some x → P x
  all_get P [] n x all h = absurd cc
  all_get P (y ∷ xs) zero x all h = let same : y ≡ x = cc in subst P same all.0
  all_get P (y ∷ xs) (suc n) x all h = all_get P xs n x all.1 h

  pub all_take : (P : X → Type 0) (n : ℕ) (xs : List X) → AllByRecursion P xs → AllByRecursion P (take n xs)
  all_take P zero xs all = tt
  all_take P (suc n) [] all = tt
  all_take P (suc n) (x ∷ xs) all = (all.0, all_take P n xs all.1)

  pub all_push : (P : X → Type 0) (xs : List X) (x : X) → AllByRecursion P xs → P x → AllByRecursion P (xs ++ x ∷ [])
  all_push P [] x all p = (p, tt)
  all_push P (y ∷ xs) x all p = (all.0, all_push P xs x all.1 p)

  -- ---- where a test holds

  pub record Passes (test : X → Bool) (xs : List X) (i : ℕ) : Type 0 where
    pub value : X
    pub at : slice_get xs i ≡ Some value
    pub passes : test value ≡ true

  later : (test : X → Bool) (x : X) (xs : List X) (i : ℕ) → Passes test xs i → Passes test (x ∷ xs) (suc i)
  later test x xs i p = record { value = p.value; at = p.at; passes = p.passes }

  pub last_passes : (test : X → Bool) (xs : List X) (i : ℕ) → last_place test xs ≡ Some i → Passes test xs i
  unfolding last_place
  last_passes test [] i h = absurd cc
  last_passes test (x ∷ xs) i h = go (last_passes test xs) (last_place test xs) refl (test x) refl h
    where
      go : ((j : ℕ) → last_place test xs ≡ Some j → Passes test xs j) → (o : Option ℕ) → last_place test xs ≡ o → (b : Bool) → test x ≡ b
          → later_or o b ≡ Some i → Passes test (x ∷ xs) i
      go rest None e true t h = let first : 0 ≡ i = cc in subst (λ (n : ℕ). Passes test (x ∷ xs) n) first (record { value = x; at = refl; passes = t })
      go rest None e false t h = absurd cc
      go rest (Some j) e b t h = let next : suc j ≡ i = cc in subst (λ (n : ℕ). Passes test (x ∷ xs) n) next (later test x xs j (rest j e))

  -- what is found, where something passes
  pub record IsFound (test : X → Bool) (xs : List X) : Type 0 where
    pub value : X
    pub is : find test xs ≡ Some value
    pub place : ℕ
    pub at : slice_get xs place ≡ Some value
    pub passes : test value ≡ true

  pub find_there : (test : X → Bool) (xs : List X) (i : ℕ) (x : X) → slice_get xs i ≡ Some x → test x ≡ true → IsFound test xs
  find_there test [] i x h t = absurd cc
  find_there test (y ∷ xs) i x h t = go (find_there test xs) (test y) refl i h
    where
      go : ((j : ℕ) (z : X) → slice_get xs j ≡ Some z → test z ≡ true → IsFound test xs) → (b : Bool) → test y ≡ b → (j : ℕ)
          → slice_get (y ∷ xs) j ≡ Some x → IsFound test (y ∷ xs)
      go rest true e j h = record { value = y; is = ap (λ b. cond b (Some y) (find test xs)) e; place = 0; at = refl; passes = e }
      go rest false e zero h = let same : y ≡ x = cc in absurd (true≢false (sym t ∙ ap test (sym same) ∙ e))
      go rest false e (suc j) h =
          let f = rest j x h t in
          record { value = f.value; is = ap (λ b. cond b (Some y) (find test xs)) e ∙ f.is; place = suc f.place; at = f.at; passes = f.passes }

  -- ---- a filter, and one more at the end

  pub from_filter : (p : X → Bool) (xs : List X) (i : ℕ) (x : X) → slice_get (filter p xs) i ≡ Some x → (j : ℕ) × (slice_get xs j ≡ Some x)
  from_filter p [] i x h = absurd cc
  from_filter p (y ∷ xs) i x h = go (from_filter p xs) (p y) i h
    where
      go : ((j : ℕ) (z : X) → slice_get (filter p xs) j ≡ Some z → (k : ℕ) × (slice_get xs k ≡ Some z)) → (b : Bool) → (j : ℕ)
          → slice_get (cond b (y ∷ filter p xs) (filter p xs)) j ≡ Some x → (k : ℕ) × (slice_get (y ∷ xs) k ≡ Some x)
      go rest true zero h = (zero, h)
      go rest true (suc j) h = let r = rest j x h in (suc r.0, r.1)
      go rest false j h = let r = rest j x h in (suc r.0, r.1)

  pub of_push : (xs : List X) (x y : X) (i : ℕ) → slice_get (xs ++ x ∷ []) i ≡ Some y → (slice_get xs i ≡ Some y) ⊎ (x ≡ y)
  of_push [] x y zero h = inr cc
  of_push [] x y (suc i) h = absurd cc
  of_push (z ∷ xs) x y zero h = inl h
  of_push (z ∷ xs) x y (suc i) h = of_push xs x y i h

  pub push_last : (xs : List X) (x : X) → slice_get (xs ++ x ∷ []) (length xs) ≡ Some x
  push_last [] x = refl
  push_last (z ∷ xs) x = push_last xs x

  pub last_or : (xs : List X) (x d : X) → slice_index_or (xs ++ x ∷ []) (length xs) d ≡ x
  last_or [] x d = refl
  last_or (z ∷ xs) x d = last_or xs x d

pub map_get : {X Y : Type 0} (f : X → Y) (xs : List X) (i : ℕ) (y : Y) → slice_get (map f xs) i ≡ Some y → (x : X) × (slice_get xs i ≡ Some x) × (f x ≡ y)
map_get f [] i y h = absurd cc
map_get f (x ∷ xs) zero y h = (x, refl, (let same : f x ≡ y = cc in same))
map_get f (x ∷ xs) (suc i) y h = map_get f xs i y h
