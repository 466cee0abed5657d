-- The laws of a servant, once for every kind whose values have a spelling.
use Rattle.std.proofs.Common.{◌≡◌, ℕ, ◌+◌, ◌^◌, ◌<◌, Bool, true, false, ◌&&◌, if◌then◌else◌, List, [], ◌∷◌, length, Option, Some, None, option_map, is_some, refl, ap, sym, subst, ◌∙◌}
use Rattle.std.specs.Str.{bytes_eq}
use Rattle.std.proofs.lemmas.Slice.Eq.{bytes_eq-Decides}
use Rattle.ft_base.specs.Coding.{Coding, IsCoding, said_by, value_in, or_opening, value_of, state_of, machine_of}
use Rattle.ft_base.specs.Journal.{Entry, after, AllFit}
use Rattle.ft_base.specs.Machine.{Fits, FitsAs, IsGiven}
use Rattle.ft_base.specs.declared.requests.Request.{Request}
use Rattle.ft_base.specs.declared.requests.Outcome.{Outcome}

both : (a b : Bool) → (a && b) ≡ true → (a ≡ true) × (b ≡ true)
both true b h = (refl, h)
both false b h = absurd cc

-- bytes that are the state bytes of a value
pub record Says {X : Type 0} (c : Coding X) (bytes : List ℕ) (x : X) : Type 0 where
  pub valid : c.valid x ≡ true
  pub spelled : bytes ≡ c.spelled x

module _ {X : Type 0} (c : Coding X) where
  chosen : (bytes : List ℕ) (x y : X) (b : Bool) → (c.valid x && bytes_eq bytes (c.spelled x)) ≡ b
      → (if b then Some x else None) ≡ Some y → Says c bytes y
  chosen bytes x y true test is =
      let parts = both (c.valid x) (bytes_eq bytes (c.spelled x)) test in
      let one : x ≡ y = cc in
      subst (λ (z : X). Says c bytes z) one (record { valid = parts.0; spelled = (bytes_eq-Decides bytes (c.spelled x)).0 parts.1 })
  chosen bytes x y false test is = absurd cc

  says_by : (bytes : List ℕ) (o : Option X) (y : X) → said_by c.valid c.spelled bytes o ≡ Some y → Says c bytes y
  says_by bytes None y is = absurd cc
  says_by bytes (Some x) y is = chosen bytes x y (c.valid x && bytes_eq bytes (c.spelled x)) refl is

  -- what bytes say is a value that is spelled so
  pub says : (bytes : List ℕ) (x : X) → value_in c bytes ≡ Some x → Says c bytes x
  unfolding machine_of value_in state_of
  says bytes x is = says_by bytes (c.read bytes) x is

  some_value : (o : Option X) → is_some o ≡ true → (x : X) × (o ≡ Some x)
  some_value None h = absurd cc
  some_value (Some x) h = (x, refl)

  -- a state is some value's
  pub value_there : (bytes : List ℕ) → is_some (value_in c bytes) ≡ true → (x : X) × (value_in c bytes ≡ Some x)
  unfolding machine_of value_in state_of
  value_there bytes h = some_value (value_in c bytes) h

  -- the bytes of a servant with a valid value
  pub state_of_valid : (x : X) → c.valid x ≡ true → state_of c x ≡ c.spelled x
  unfolding machine_of value_in state_of
  state_of_valid x h = ap (λ b. c.spelled (if b then x else c.opening)) h

  -- the state that bytes say has these bytes
  pub state_said : (bytes : List ℕ) (x : X) → value_in c bytes ≡ Some x → state_of c x ≡ bytes
  unfolding machine_of value_in state_of
  state_said bytes x h = let said = says bytes x h in state_of_valid x said.valid ∙ sym said.spelled

  pub said_is_state : (bytes : List ℕ) (x : X) → value_in c bytes ≡ Some x → (machine_of c).is_state bytes ≡ true
  unfolding machine_of
  said_is_state bytes x is = ap is_some is

  pub unsaid_is_none : (bytes : List ℕ) → value_in c bytes ≡ None → (machine_of c).is_state bytes ≡ false
  unfolding machine_of
  unsaid_is_none bytes is = ap is_some is

  -- a request that may be run has arguments in the form of its operation
  pub fits_as : (q : Request) → Fits (machine_of c) q → FitsAs (c.signature q.op) q.args
  unfolding machine_of
  fits_as q fits = fits

  pub signature_is : (op : List ℕ) → (machine_of c).signature op ≡ c.signature op
  unfolding machine_of
  signature_is op = refl

  -- state bytes that are read back say that value
  pub said_where : (x : X) → c.valid x ≡ true → c.read (c.spelled x) ≡ Some x → value_in c (c.spelled x) ≡ Some x
  unfolding machine_of value_in state_of
  said_where x h back =
      let same : bytes_eq (c.spelled x) (c.spelled x) ≡ true = (bytes_eq-Decides (c.spelled x) (c.spelled x)).1 refl in
      ap (said_by c.valid c.spelled (c.spelled x)) back
      ∙ ap (λ b. if b && bytes_eq (c.spelled x) (c.spelled x) then Some x else None) h
      ∙ ap (λ b. if b then Some x else None) same

module _ {X : Type 0} {c : Coding X} {Leads : X → X → Type 0} (laws : IsCoding c Leads) where
  -- a value's state bytes say that value
  pub said_again : (x : X) → c.valid x ≡ true → value_in c (c.spelled x) ≡ Some x
  said_again x h = said_where c x h (laws.reads_back x h)

  pub value_again : (x : X) → c.valid x ≡ true → value_of c (c.spelled x) ≡ x
  unfolding machine_of value_in state_of
  value_again x h = ap (or_opening c) (said_again x h)

  pub value_of_state : (x : X) → c.valid x ≡ true → value_of c (state_of c x) ≡ x
  unfolding machine_of value_in state_of
  value_of_state x h = ap (value_of c) (state_of_valid c x h) ∙ value_again x h

  spelled_is_state : (x : X) → c.valid x ≡ true → is_some (value_in c (c.spelled x)) ≡ true
  unfolding machine_of value_in state_of
  spelled_is_state x h = ap is_some (said_again x h)

  pub has_state : (x : X) → (machine_of c).is_state (state_of c x) ≡ true
  unfolding machine_of value_in state_of
  has_state x =
      let go : (b : Bool) → c.valid x ≡ b → is_some (value_in c (c.spelled (if b then x else c.opening))) ≡ true =
      elim [ true ↦ λ h. spelled_is_state x h | false ↦ λ h. spelled_is_state c.opening laws.opens ] in
      go (c.valid x) refl

  -- what holds of each value's state bytes holds of each state
  over_states : (P : List ℕ → Type 0) → ((x : X) → c.valid x ≡ true → P (c.spelled x))
      → (s : List ℕ) → (machine_of c).is_state s ≡ true → P s
  unfolding machine_of value_in state_of
  over_states P each s h =
      let there = value_there c s h in
      let said = says c s there.0 there.1 in
      subst P (sym said.spelled) (each there.0 said.valid)

  pub stays : (s : List ℕ) (q : Request) → (machine_of c).is_state s ≡ true → Fits (machine_of c) q
      → (machine_of c).is_state ((machine_of c).step s q).0 ≡ true
  unfolding machine_of value_in state_of
  stays s q state fits =
      over_states (λ s. (machine_of c).is_state ((machine_of c).step s q).0 ≡ true)
      (λ x h. subst (λ y. is_some (value_in c (c.spelled (c.step y q).0)) ≡ true) (sym (value_again x h)) (spelled_is_state (c.step x q).0 (laws.stays x q h fits)))
      s state

  pub gives : (s : List ℕ) (q : Request) → (machine_of c).is_state s ≡ true → Fits (machine_of c) q
      → IsGiven (machine_of c) q ((machine_of c).step s q).1
  unfolding machine_of value_in state_of
  gives s q state fits =
      over_states (λ s. IsGiven (machine_of c) q ((machine_of c).step s q).1)
      (λ x h. subst (λ y. IsGiven (machine_of c) q (c.step y q).1) (sym (value_again x h)) (laws.gives x q h fits))
      s state

  pub sized : (s : List ℕ) → (machine_of c).is_state s ≡ true → length s + 8 < 2 ^ 32
  unfolding machine_of value_in state_of
  sized s state = over_states (λ s. length s + 8 < 2 ^ 32) (λ x h. laws.short x h) s state

  pub update_sized : (s t : List ℕ) → (machine_of c).is_state s ≡ true → (machine_of c).is_state t ≡ true
      → length ((machine_of c).delta s t) + 8 < 2 ^ 32
  unfolding machine_of value_in state_of
  update_sized s t from to =
      over_states (λ s. length (c.delta (value_of c s) (value_of c t)) + 8 < 2 ^ 32) (λ x h.
      subst (λ z. length (c.delta z (value_of c t)) + 8 < 2 ^ 32) (sym (value_again x h))
      (over_states (λ t. length (c.delta x (value_of c t)) + 8 < 2 ^ 32) (λ y k.
      subst (λ z. length (c.delta x z) + 8 < 2 ^ 32) (sym (value_again y k)) (laws.update_short x y h k))
      t to))
      s from

  updated : (x : X) (o : Option X) (t : List ℕ) → ((y : X) → o ≡ Some y → c.valid y ≡ true)
      → option_map c.spelled o ≡ Some t → is_some (value_in c t) ≡ true
  unfolding machine_of value_in state_of
  updated x None t valid is = absurd cc
  updated x (Some y) t valid is =
      let same : c.spelled y ≡ t = cc in subst (λ (s : List ℕ). is_some (value_in c s) ≡ true) same (spelled_is_state y (valid y refl))

  pub update_stays : (s u t : List ℕ) → (machine_of c).is_state s ≡ true → (machine_of c).applied s u ≡ Some t
      → (machine_of c).is_state t ≡ true
  unfolding machine_of value_in state_of
  update_stays s u t state is =
      let there = value_there c s state in
      let valid : c.valid there.0 ≡ true = (says c s there.0 there.1).valid in
      let value : value_of c s ≡ there.0 = ap (or_opening c) there.1 in
      let applied : option_map c.spelled (c.applied there.0 u) ≡ Some t =
      subst (λ (x : X). option_map c.spelled (c.applied x u) ≡ Some t) value is in
      updated there.0 (c.applied there.0 u) t (λ y e. laws.update_stays there.0 y u valid e) applied

  -- requests lead on from a value that a value leads to
  record Reaches (x : X) (t : List ℕ) : Type 0 where
    value : X
    valid : c.valid value ≡ true
    is : t ≡ c.spelled value
    leads : Leads x value

  reaches : (x y : X) (es : List Entry) → c.valid x ≡ true → c.valid y ≡ true → Leads x y → AllFit (machine_of c) es
      → Reaches x (after (machine_of c) (c.spelled y) es)
  unfolding after machine_of value_in state_of
  reaches x y [] h k leads fit = record { value = y; valid = k; is = refl; leads = leads }
  reaches x y (e ∷ es) h k leads fit =
      subst (λ (z : X). Reaches x (after (machine_of c) (c.spelled (c.step z e.request).0) es)) (sym (value_again y k))
      (reaches x (c.step y e.request).0 es h (laws.stays y e.request k fit.0) (laws.leads_on x y e.request h k fit.0 leads) fit.1)

  updates_from : (x y : X) → c.valid x ≡ true → c.valid y ≡ true → Leads x y
      → (machine_of c).applied (c.spelled x) ((machine_of c).delta (c.spelled x) (c.spelled y)) ≡ Some (c.spelled y)
  unfolding machine_of value_in state_of
  updates_from x y h k leads =
      ap (λ z. option_map c.spelled (c.applied z (c.delta z (value_of c (c.spelled y))))) (value_again x h)
      ∙ ap (λ z. option_map c.spelled (c.applied x (c.delta x z))) (value_again y k)
      ∙ ap (option_map c.spelled) (laws.updates x y h k leads)

  pub updates : (s : List ℕ) (es : List Entry) → (machine_of c).is_state s ≡ true → AllFit (machine_of c) es
      → (machine_of c).applied s ((machine_of c).delta s (after (machine_of c) s es)) ≡ Some (after (machine_of c) s es)
  unfolding machine_of value_in state_of
  updates s es state fit =
      over_states (λ s. (machine_of c).applied s ((machine_of c).delta s (after (machine_of c) s es)) ≡ Some (after (machine_of c) s es)) (λ x h.
      let there = reaches x x es h h (laws.leads_itself x h) fit in
      subst (λ (t : List ℕ). (machine_of c).applied (c.spelled x) ((machine_of c).delta (c.spelled x) t) ≡ Some t) (sym there.is)
      (updates_from x there.value h there.valid there.leads))
      s state

  -- ---- what a servant's calls need, over values

  -- a request over state bytes does what it does over the value
  pub step_ran : (x y : X) (q : Request) (outcome : Outcome) → c.valid x ≡ true → c.valid y ≡ true
      → c.step x q ≡ (y, outcome) → (machine_of c).step (state_of c x) q ≡ (state_of c y, outcome)
  unfolding machine_of value_in state_of
  step_ran x y q outcome h k is =
      ap (λ z. (c.spelled (c.step z q).0, (c.step z q).1)) (value_of_state x h)
      ∙ ap (λ (p : X × Outcome). (c.spelled p.0, p.1)) is
      ∙ ap (λ (s : List ℕ). (s, outcome)) (sym (state_of_valid c y k))

  pub delta_is : (x y : X) → c.valid x ≡ true → c.valid y ≡ true
      → (machine_of c).delta (state_of c x) (state_of c y) ≡ c.delta x y
  unfolding machine_of value_in state_of
  delta_is x y h k =
      ap (λ z. c.delta z (value_of c (state_of c y))) (value_of_state x h) ∙ ap (c.delta x) (value_of_state y k)

  -- an update over state bytes does what it does over the value
  pub applied_is : (x : X) (u : List ℕ) → c.valid x ≡ true → (machine_of c).applied (state_of c x) u ≡ option_map c.spelled (c.applied x u)
  unfolding machine_of
  applied_is x u h = ap (λ z. option_map c.spelled (c.applied z u)) (value_of_state x h)

  pub update_applied : (x y : X) (u : List ℕ) → c.valid x ≡ true → c.applied x u ≡ Some y
      → (machine_of c).applied (state_of c x) u ≡ Some (state_of c y)
  update_applied x y u h is =
      applied_is x u h ∙ ap (option_map c.spelled) is
      ∙ ap (λ (s : List ℕ). Some s) (sym (state_of_valid c y (laws.update_stays x y u h is)))

  pub update_refused : (x : X) (u : List ℕ) → c.valid x ≡ true → c.applied x u ≡ None
      → (machine_of c).applied (state_of c x) u ≡ None
  update_refused x u h is = applied_is x u h ∙ ap (option_map c.spelled) is
