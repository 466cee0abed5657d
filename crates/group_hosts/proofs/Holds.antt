-- The orders that a host holds back.
use Rattle.std.proofs.Common.{◌≡◌, ℕ, ◌<◌, ◌≤◌, max, Bool, true, false, cond, List, [], ◌∷◌, length, refl, sym, ap, ◌∙◌, arith}
use Rattle.std.specs.Prelude.{◌||◌, nat_le, nat_lt}
use Rattle.std.specs.List.{AllByRecursion, filter}
use Rattle.std.proofs.lemmas.Bool.Decides.{nat_tests}
use Rattle.ft_base.specs.Machine.{Machine}
use Rattle.ft_base.specs.Journal.{Entry}
use Rattle.group_model.specs.Agreeing.{IsSoundHost}
use Rattle.group_model.specs.Plain.{Common, Host, from, with_ran}
use Rattle.ft_base.specs.Views.{is_passive}
use Rattle.group_model.specs.Views.{MayKnow}
use Rattle.group_stands.specs.Holding.{HeldOrder, IsHeld, HoldStands, indices, orders_from}
use Rattle.group_hosts.specs.Hosts.{HostPicture, HostStands}

-- none is below the host's position
pub all_to_come : (journal : List Entry) (ran position : ℕ) (orders : List HeldOrder) → AllByRecursion (IsHeld journal ran position) orders → orders_from position orders ≡ orders
all_to_come journal ran position [] all = refl
all_to_come journal ran position (order ∷ orders) all =
    let le = all.0.to_come in
    let keeps : nat_le position order.0 ≡ true = grind (arith, nat_tests) in
    rw keeps (ap (λ (l : List HeldOrder). order ∷ l) (all_to_come journal ran position orders all.1))

module _ (ran position : ℕ) where
  -- a number below the host's position, or past what has run
  abbrev is_out : ℕ → Bool
  is_out i = nat_lt i position || nat_le ran i

  abbrev IsIn : ℕ → Type 0
  IsIn i = (position ≤ i) × (i < ran)

  none_out : (journal : List Entry) (orders : List HeldOrder) → AllByRecursion (IsHeld journal ran position) orders → length (filter is_out (indices orders)) ≡ 0
  none_out journal [] all = refl
  none_out journal (order ∷ orders) all =
      let low = all.0.to_come in
      let high = all.0.has_run in
      let no : is_out order.0 ≡ false = grind (arith, nat_tests) in
      ap (λ (b : Bool). length (cond b (order.0 ∷ filter is_out (indices orders)) (filter is_out (indices orders)))) no ∙ none_out journal orders all.1

  numbers_in : (xs : List ℕ) → length (filter is_out xs) ≡ 0 → AllByRecursion IsIn xs
  numbers_in [] none = tt
  numbers_in (x ∷ xs) none = go (is_out x) refl none (numbers_in xs)
    where
      go : (b : Bool) → is_out x ≡ b → length (cond b (x ∷ filter is_out xs) (filter is_out xs)) ≡ 0 → (length (filter is_out xs) ≡ 0 → AllByRecursion IsIn xs) →
          IsIn x × AllByRecursion IsIn xs
      go true out e rest = absurd (omega (arith, e))
      go false out e rest = ((grind (arith, nat_tests), grind (arith, nat_tests)), rest e)

  -- nor any of the numbers
  pub held_in : (journal : List Entry) (holdback : List ℕ) (orders : List HeldOrder) → HoldStands journal ran position holdback orders → AllByRecursion IsIn holdback
  held_in journal holdback orders stands = numbers_in holdback (sym (stands.numbers is_out) ∙ none_out journal orders stands.each)

  all_from : (xs : List ℕ) → AllByRecursion IsIn xs → from position xs ≡ xs
  all_from [] all = refl
  all_from (x ∷ xs) all =
      let le = all.0.0 in
      let keeps : nat_le position x ≡ true = grind (arith, nat_tests) in
      rw keeps (ap (λ (l : List ℕ). x ∷ l) (all_from xs all.1))

pub all_numbers : (journal : List Entry) (ran position : ℕ) (holdback : List ℕ) (orders : List HeldOrder) → HoldStands journal ran position holdback orders → from position holdback ≡ holdback
all_numbers journal ran position holdback orders stands = all_from ran position holdback (held_in ran position journal holdback orders stands)

-- ---- a host that is stood for is sound

pub sound_of : (machines : ℕ → Machine) (c : Common) (host : HostPicture) (h : Host) → HostStands machines c host h → h.up ≡ true → MayKnow c h.known →
    (h.place.loaded ≡ false → (h.place.position ≡ 0) × (h.holdback ≡ [])) → (is_passive c.style ≡ true → h.holdback ≡ []) → IsSoundHost c h
sound_of machines c host h stands up known unloaded passive = record {
  known = known;
  base = stands.replica.order;
  position = stands.replica.ran;
  unloaded = unloaded;
  held = held_in c.ran h.place.position c.journal h.holdback host.held stands.held;
  passive = passive;
  down = λ no. let both : true ≡ false = sym up ∙ no in absurd cc;
}

-- ---- what has run

pub with_ran-same : (c : Common) (n : ℕ) → n ≤ c.ran → with_ran n c ≡ c
with_ran-same c n h = let e : max c.ran n ≡ c.ran = omega arith in ap (λ k. record c { ran = k }) e
