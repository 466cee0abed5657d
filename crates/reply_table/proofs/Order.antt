-- Entries in order of position.
use Rattle.std.proofs.Common.{◌≡◌, ℕ, zero, suc, ◌<◌, ◌≤◌, Bool, true, false, cond, eqb, ltb, List, [], ◌∷◌, ◌++◌, length, get_or, Some, None, Vec, Result, Ok, Err, refl, sym, ap, subst, ◌∙◌, arith, ◌⊎◌, inl, inr, ⊎_elim}
use Rattle.std.specs.Prelude.{slice_get, MatchOption}
use Rattle.std.specs.declared.cmp.Ordering.{Ordering}
use Rattle.std.specs.Ordering.{nat_cmp}
use Rattle.std.specs.List.{AllByRecursion, filter}
use Rattle.std.specs.Map.{values_of}
use Rattle.std.specs.List.Sorted.{IsNonDecreasingBy, IsBinarySearchResult, IsSearchInRange}
use Rattle.std.specs.Ordering.{ordering_index}
use Rattle.std.specs.declared.cmp.Ordering.TheVariants.{Less, Equal, Greater}
use Rattle.std.specs.Result.{result_ok}
use Rattle.std.proofs.lemmas.Bool.{ltb-true, ltb-false}
use Rattle.std.proofs.lemmas.Bool.Decides.{nat_tests}
use Rattle.std.proofs.lemmas.Option.{slice_get-get_or, get_or_from_slice_get, slice_get_within, slice_get_cases}
use Rattle.ft_base.specs.declared.requests.Outcome.{Outcome}
use Rattle.indexmap.specs.Layout.{set_value_at}
use Rattle.reply_table.specs.Ids.{AreFiled, IsFiledAs}
use Rattle.reply_table.specs.Entries.{AreInOrder, IsAfter, entry_at, with_reply, replied, answered}
use Rattle.reply_table.specs.declared.entries.Retained.{Retained}
use Rattle.reply_table.proofs.Filed.{all_of_filter, all_of_push}

pub order_of_filter : (p : Retained → Bool) (rs : List Retained) → AreInOrder rs → AreInOrder (filter p rs)
order_of_filter p [] h = h
order_of_filter p (r ∷ rs) h = go (order_of_filter p rs h.1) (p r)
  where
    go : AreInOrder (filter p rs) → (b : Bool) → AreInOrder (cond b (r ∷ filter p rs) (filter p rs))
    go rest true = (all_of_filter (λ (other : Retained). r.position < other.position) p rs h.0, rest)
    go rest false = rest

pub order_of_push : (rs : List Retained) (r : Retained) → AreInOrder rs → IsAfter r.position rs → AreInOrder (rs ++ r ∷ [])
order_of_push [] r h after = (tt, tt)
order_of_push (x ∷ rs) r h after = (all_of_push (λ (other : Retained). x.position < other.position) rs r h.0 after.0, order_of_push rs r h.1 after.1)

all_at : {X : Type 0} (P : X → Type 0) (xs : List X) (i : ℕ) (x : X) → AllByRecursion P xs → slice_get xs i ≡ Some x → P x
all_at P [] i x h g = absurd cc
all_at P (y ∷ xs) zero x h g = subst P (let e : y ≡ x = cc in e) h.0
all_at P (y ∷ xs) (suc i) x h g = all_at P xs i x h.1 g

eqb_not : (a b : ℕ) → a < b → eqb a b ≡ false
eqb_not a b h = grind arith

eqb_above : (a b : ℕ) → b < a → eqb a b ≡ false
eqb_above a b h = grind arith

eqb_same : (a b : ℕ) → a ≡ b → eqb a b ≡ true
eqb_same a b h = grind arith

-- the entry at an index is that of its position
pub entry_of_index : (rs : List Retained) (position i : ℕ) (r : Retained) → AreInOrder rs → slice_get rs i ≡ Some r → r.position ≡ position
    → entry_at rs position ≡ Some r
entry_of_index [] position i r h g e = absurd cc
entry_of_index (x ∷ rs) position zero r h g e =
    let same : x ≡ r = cc in
    ap (λ b. cond b (Some x) (entry_at rs position)) (eqb_same x.position position (ap (λ (y : Retained). y.position) same ∙ e)) ∙ ap Some same
entry_of_index (x ∷ rs) position (suc i) r h g e =
    let less : x.position < r.position = all_at (λ (other : Retained). x.position < other.position) rs i r h.0 g in
    ap (λ b. cond b (Some x) (entry_at rs position)) (eqb_not x.position position (subst (λ n. x.position < n) e less)) ∙ entry_of_index rs position i r h.1 g e

-- where no entry is of a position, there is none
pub no_entry : (rs : List Retained) (position : ℕ) → ((i : ℕ) (r : Retained) → slice_get rs i ≡ Some r → r.position ≡ position → ⊥) → entry_at rs position ≡ None
no_entry [] position h = refl
no_entry (x ∷ rs) position h = go (no_entry rs position (λ i r. h (suc i) r)) (eqb x.position position) refl
  where
    go : entry_at rs position ≡ None → (b : Bool) → eqb x.position position ≡ b → cond b (Some x) (entry_at rs position) ≡ None
    go rest true t = absurd (h zero x refl (grind (arith, t)))
    go rest false t = rest

-- ---- a search by position

-- the entry at an index of the map, and that of the list
pub value_at : {K X : Type 0} (es : List (K × X)) (i : ℕ) (e : K × X) → slice_get es i ≡ Some e → slice_get (values_of es) i ≡ Some e.1
value_at [] i e h = absurd cc
value_at (d ∷ es) zero e h = ap (λ (x : _). Some x.1) (let same : d ≡ e = cc in same)
value_at (d ∷ es) (suc i) e h = value_at es i e h

pub pair_at : {K X : Type 0} (es : List (K × X)) (i : ℕ) (x : X) → slice_get (values_of es) i ≡ Some x → (e : K × X) × (slice_get es i ≡ Some e) × (e.1 ≡ x)
pair_at [] i x h = absurd cc
pair_at (d ∷ es) zero x h = (d, refl, (let same : d.1 ≡ x = cc in same))
pair_at (d ∷ es) (suc i) x h = pair_at es i x h

positions_rise : (rs : List Retained) (i j : ℕ) (a b : Retained) → AreInOrder rs → i ≤ j → slice_get rs i ≡ Some a → slice_get rs j ≡ Some b → a.position ≤ b.position
positions_rise [] i j a b h le g k = absurd cc
positions_rise (r ∷ rs) zero zero a b h le g k = let e : a.position ≡ b.position = cc in omega (arith, e)
positions_rise (r ∷ rs) zero (suc j) a b h le g k =
    let e : r ≡ a = cc in
    let less : r.position < b.position = all_at (λ (other : Retained). r.position < other.position) rs j b h.0 k in
    omega (arith, less, ap (λ (x : Retained). x.position) e)
positions_rise (r ∷ rs) (suc i) zero a b h le g k = absurd (omega (arith, le))
positions_rise (r ∷ rs) (suc i) (suc j) a b h le g k = positions_rise rs i j a b h.1 (omega (arith, le)) g k

equal_positions : (a b : ℕ) → nat_cmp a b ≡ Equal → a ≡ b
equal_positions a b h = grind (arith, nat_tests)

same_position : (a b : ℕ) → a ≡ b → nat_cmp a b ≡ Equal
same_position a b h = grind (arith, nat_tests)

higher : (a b x : ℕ) → a ≤ b → ordering_index (nat_cmp a x) ≤ ordering_index (nat_cmp b x)
higher a b x le = grind (arith, nat_tests)

less_or_not : (a b : ℕ) → (a < b) ⊎ (b ≤ a)
less_or_not a b = go (ltb a b) refl
  where
    go : (t : Bool) → ltb a b ≡ t → (a < b) ⊎ (b ≤ a)
    go true t = inl (ltb-true a b t)
    go false t = inr (ltb-false a b t)

Less≢Equal : Less ≡ Equal → ⊥
Less≢Equal e = cc

Equal≢Greater : Equal ≡ Greater → ⊥
Equal≢Greater e = cc

module _ {K : Type 0} (es : List (K × Retained)) (position : ℕ) (ordered : AreInOrder (values_of es)) where
  abbrev against : K × Retained → Ordering
  against e = nat_cmp e.1.position position

  rises : IsNonDecreasingBy (λ e. ordering_index (nat_cmp e.1.position position)) es
  rises i j d le lt =
      let first = slice_get-get_or es i d (omega (arith, le, lt)) in
      let second = slice_get-get_or es j d lt in
      higher (get_or es i d).1.position (get_or es j d).1.position position
      (positions_rise (values_of es) i j (get_or es i d).1 (get_or es j d).1 ordered le (value_at es i (get_or es i d) first) (value_at es j (get_or es j d) second))

  pub found_by_search : (r : Result ℕ ℕ) → IsSearchInRange r (length es) → IsBinarySearchResult (λ e. nat_cmp e.1.position position) es r
      → MatchOption (result_ok r) (entry_at (values_of es) position ≡ None) (λ i. slice_get (values_of es) i ≡ entry_at (values_of es) position)
  found_by_search (Ok i) within h =
      ⊎_elim
      (λ p.
      let at = value_at es i p.0 p.2 in
      at ∙ sym (entry_of_index (values_of es) position i p.0.1 ordered at
      (equal_positions p.0.1.position position (subst (λ (e : K × Retained). nat_cmp e.1.position position ≡ Equal) p.3 (h p.0)))))
      (λ p. absurd (omega (arith, p.0, within)))
      (slice_get_cases es i).1
  found_by_search (Err i) within h =
      no_entry (values_of es) position (λ j r at is.
      let pair = pair_at es j r at in
      let equal : nat_cmp pair.0.1.position position ≡ Equal = same_position pair.0.1.position position (ap (λ (x : Retained). x.position) pair.2 ∙ is) in
      let here : get_or es j pair.0 ≡ pair.0 = get_or_from_slice_get es j pair.0 pair.0 pair.1 in
      let inside : j < length es = slice_get_within es j pair.0 pair.1 in
      let parts = h rises in
      let equal_there : nat_cmp (get_or es j pair.0).1.position position ≡ Equal =
      subst (λ (e : K × Retained). nat_cmp e.1.position position ≡ Equal) (sym here) equal in
      ⊎_elim
      (λ less. Less≢Equal (sym (parts.0 j pair.0 (omega arith) less) ∙ equal_there))
      (λ more. Equal≢Greater (sym equal_there ∙ parts.1 j pair.0 more inside))
      (less_or_not j i))

-- ---- the entry at a position is given its reply

pub entry_at_is : (rs : List Retained) (position : ℕ) (r : Retained) → entry_at rs position ≡ Some r → r.position ≡ position
entry_at_is [] position r h = absurd cc
entry_at_is (x ∷ rs) position r h = go (entry_at_is rs position r) (eqb x.position position) refl h
  where
    go : (entry_at rs position ≡ Some r → r.position ≡ position) → (b : Bool) → eqb x.position position ≡ b → cond b (Some x) (entry_at rs position) ≡ Some r
        → r.position ≡ position
    go rest true t h = let same : x ≡ r = cc in sym (ap (λ (y : Retained). y.position) same) ∙ grind (arith, t)
    go rest false t h = rest h

module _ (position : ℕ) (outcome : Outcome) where
  position_of_answered : (r : Retained) → (answered position outcome r).position ≡ r.position
  position_of_answered r = go (eqb r.position position)
    where
      go : (b : Bool) → (cond b (replied outcome r) r).position ≡ r.position
      go true = refl
      go false = refl

  all_of_answered : (n : ℕ) (rs : List Retained) → AllByRecursion (λ (other : Retained). n < other.position) rs
      → AllByRecursion (λ (other : Retained). n < other.position) (with_reply rs position outcome)
  all_of_answered n [] h = h
  all_of_answered n (r ∷ rs) h = (subst (λ m. n < m) (sym (position_of_answered r)) h.0, all_of_answered n rs h.1)

  pub order_of_answered : (rs : List Retained) → AreInOrder rs → AreInOrder (with_reply rs position outcome)
  order_of_answered [] h = h
  order_of_answered (r ∷ rs) h = (
    subst (λ n. AllByRecursion (λ (other : Retained). n < other.position) (with_reply rs position outcome)) (sym (position_of_answered r)) (all_of_answered r.position rs h.0),
    order_of_answered rs h.1,
  )

  pub unanswered_stay : (rs : List Retained) → entry_at rs position ≡ None → rs ≡ with_reply rs position outcome
  unanswered_stay [] h = refl
  unanswered_stay (r ∷ rs) h = go (unanswered_stay rs) (eqb r.position position) refl h
    where
      go : (entry_at rs position ≡ None → rs ≡ with_reply rs position outcome) → (b : Bool) → eqb r.position position ≡ b
          → cond b (Some r) (entry_at rs position) ≡ None → r ∷ rs ≡ answered position outcome r ∷ with_reply rs position outcome
      go rest true t h = absurd cc
      go rest false t h = ap (λ (xs : List Retained). r ∷ xs) (rest h) ∙ sym (ap (λ b. cond b (replied outcome r) r ∷ with_reply rs position outcome) t)

  none_of_later : (rs : List Retained) → AllByRecursion (λ (other : Retained). position < other.position) rs → entry_at rs position ≡ None
  none_of_later [] h = refl
  none_of_later (r ∷ rs) h = ap (λ b. cond b (Some r) (entry_at rs position)) (eqb_above r.position position h.0) ∙ none_of_later rs h.1

  module _ {K : Type 0} where
    pub answered_there : (es : List (K × Retained)) (i : ℕ) (e : K × Retained) → AreInOrder (values_of es) → slice_get es i ≡ Some e → e.1.position ≡ position
        → values_of (set_value_at es i (replied outcome e.1)) ≡ with_reply (values_of es) position outcome
    answered_there [] i e h g p = absurd cc
    answered_there (d ∷ es) zero e h g p =
        let same : d.1 ≡ e.1 = ap (λ (x : K × Retained). x.1) (let s : d ≡ e = cc in s) in
        let at : d.1.position ≡ position = ap (λ (x : Retained). x.position) same ∙ p in
        let tail = unanswered_stay (values_of es) (none_of_later (values_of es) (subst (λ n. AllByRecursion (λ (other : Retained). n < other.position) (values_of es)) at h.0)) in
        ap (λ (xs : List Retained). replied outcome e.1 ∷ xs) tail
        ∙ ap (λ (x : Retained). replied outcome x ∷ with_reply (values_of es) position outcome) (sym same)
        ∙ sym (ap (λ b. cond b (replied outcome d.1) d.1 ∷ with_reply (values_of es) position outcome) (eqb_same d.1.position position at))
    answered_there (d ∷ es) (suc i) e h g p =
        let less : d.1.position < e.1.position = all_at (λ (other : Retained). d.1.position < other.position) (values_of es) i e.1 h.0 (value_at es i e g) in
        ap (λ (xs : List Retained). d.1 ∷ xs) (answered_there es i e h.1 g p)
        ∙ sym (ap (λ b. cond b (replied outcome d.1) d.1 ∷ with_reply (values_of es) position outcome)
        (eqb_not d.1.position position (subst (λ n. d.1.position < n) p less)))

  pub filed_there : {A : Type 0} (es : List (Vec ℕ A × Retained)) (i : ℕ) (e : Vec ℕ A × Retained) → AreFiled es → slice_get es i ≡ Some e
      → AreFiled (set_value_at es i (replied outcome e.1))
  filed_there [] i e h g = absurd cc
  filed_there {A} (d ∷ es) zero e h g =
      let same : d.1 ≡ e.1 = ap (λ (x : Vec ℕ A × Retained). x.1) (let s : d ≡ e = cc in s) in
      (subst (λ (x : Retained). IsFiledAs d.0.items x.request.key) same h.0, h.1)
  filed_there (d ∷ es) (suc i) e h g = (h.0, filed_there es i e h.1 g)
