-- Subscribers in their order, as connections change at one number.
use Rattle.std.proofs.Common.{◌≡◌, ◌+◌, ◌<◌, ◌∷◌, [], ◌++◌, ◌&&◌, ℕ, Bool, true, false, List, Option, Some, None, cond, map, length, refl, sym, ap, subst, ◌∙◌, arith}
use Rattle.std.specs.Prelude.{◌≤◌, ◌≢◌, if◌then◌else◌, option_map, is_some}
use Rattle.std.specs.List.{find}
use Rattle.std.specs.Option.{option_and_then}
use Rattle.std.specs.Str.{bytes_eq}
use Rattle.fault_notifier.specs.Notifying.{Connection}
use Rattle.fault_notifier.specs.declared.events.FaultEvent.{FaultEvent}
use Rattle.fault_notifier.specs.declared.subscribers.Sub.{Sub}
use Rattle.script_subscribers.specs.declared.named.Named.{Named}
use Rattle.script_subscribers.specs.Firsts.{has, first_sub, change_first}
use Rattle.script_subscribers.specs.Subscribers.{Subscriber, is_by, with_first}
use Rattle.script_subscribers.specs.Pictures.{Connections, listener_of, listens_of, subscriber_of, IsSub, AreSubs}

-- ---- by names

test_at : (events : List FaultEvent) (c : Option Connection) (t : Bool) → is_some c ≡ true
    → (if is_some (option_map (listener_of events) c) then t else false) ≡ t
test_at events None t there = absurd cc
test_at events (Some c) t there = refl

test_same : (events : List FaultEvent) (at : Connections) (number : ℕ) (o : Option Sub) (t : Bool) → IsSub at number o
    → (is_some o && t) ≡ (if is_some (listens_of events at o) then t else false)
test_same events at number None t sub = refl
test_same events at number (Some s) t sub = sym (test_at events (at s.place s.number) t sub.1)

module _ (events : List FaultEvent) (at : Connections) (name : List ℕ) where
  same_test : (number : ℕ) (z : Named) → IsSub at number z.sub → has name z ≡ is_by name (subscriber_of events at z)
  same_test number z sub = test_same events at number z.sub (bytes_eq z.name name) sub

  pub named_same : (number : ℕ) (zs : List Named) → AreSubs at number zs
      → option_and_then (λ (b : Subscriber). b.listens) (find (is_by name) (map (subscriber_of events at) zs)) ≡ listens_of events at (first_sub name zs)
  unfolding first_sub
  named_same number [] subs = refl
  named_same number (z ∷ zs) subs = go (has name z) (is_by name (subscriber_of events at z)) (same_test number z subs.0) (named_same (number + 1) zs subs.1)
    where
      go : (b d : Bool) → b ≡ d
          → option_and_then (λ (x : Subscriber). x.listens) (find (is_by name) (map (subscriber_of events at) zs))
          ≡ listens_of events at (option_and_then (λ (y : Named). y.sub) (find (has name) zs))
          → option_and_then (λ (x : Subscriber). x.listens) (cond d (Some (subscriber_of events at z)) (find (is_by name) (map (subscriber_of events at) zs)))
          ≡ listens_of events at (option_and_then (λ (y : Named). y.sub) (cond b (Some z) (find (has name) zs)))
      go true true e more = refl
      go true false e more = absurd cc
      go false true e more = absurd cc
      go false false e more = more

  pub none_changes : (change : Subscriber → Subscriber) (number : ℕ) (zs : List Named) → AreSubs at number zs → first_sub name zs ≡ None
      → with_first (is_by name) change (map (subscriber_of events at) zs) ≡ map (subscriber_of events at) zs
  unfolding first_sub with_first
  none_changes change number [] subs none = refl
  none_changes change number (z ∷ zs) subs none = go (has name z) refl (is_by name (subscriber_of events at z)) (same_test number z subs.0)
      (none_changes change (number + 1) zs subs.1) none
    where
      go : (b : Bool) → has name z ≡ b → (d : Bool) → b ≡ d
          → (option_and_then (λ (y : Named). y.sub) (find (has name) zs) ≡ None
          → with_first (is_by name) change (map (subscriber_of events at) zs) ≡ map (subscriber_of events at) zs)
          → option_and_then (λ (y : Named). y.sub) (cond b (Some z) (find (has name) zs)) ≡ None
          → (if d then change (subscriber_of events at z) ∷ map (subscriber_of events at) zs
          else subscriber_of events at z ∷ with_first (is_by name) change (map (subscriber_of events at) zs)) ≡ map (subscriber_of events at) (z ∷ zs)
      go true h d e more gone = let fails : has name z ≡ false = ap (λ (o : Option Sub). is_some o && bytes_eq z.name name) gone in absurd cc
      go false h true e more gone = absurd cc
      go false h false e more gone = λ i. subscriber_of events at z ∷ more gone i

  pub is_there : (s : Sub) (number : ℕ) (zs : List Named) → AreSubs at number zs → first_sub name zs ≡ Some s
      → (is_some (at s.place s.number) ≡ true) × (number ≤ s.number)
  unfolding first_sub
  is_there s number [] subs first = absurd cc
  is_there s number (z ∷ zs) subs first = go (has name z) (is_there s (number + 1) zs subs.1) first
    where
      go : (b : Bool)
          → (option_and_then (λ (y : Named). y.sub) (find (has name) zs) ≡ Some s → (is_some (at s.place s.number) ≡ true) × (number + 1 ≤ s.number))
          → option_and_then (λ (y : Named). y.sub) (cond b (Some z) (find (has name) zs)) ≡ Some s
          → (is_some (at s.place s.number) ≡ true) × (number ≤ s.number)
      go true more e = let sub = subst (λ (o : Option Sub). IsSub at number o) e subs.0 in (sub.1, omega (arith, sub.0))
      go false more e = ((more e).0, omega (arith, (more e).1))

-- ---- by numbers

module _ (events : List FaultEvent) (at after : Connections) where
  one_kept : (number : ℕ) (o : Option Sub) → IsSub at number o → ((p : ℕ) → after p number ≡ at p number)
      → (listens_of events after o ≡ listens_of events at o) × IsSub after number o
  one_kept number None sub same = (refl, tt)
  one_kept number (Some s) sub same =
      let e : after s.place s.number ≡ at s.place s.number = subst (λ (j : ℕ). after s.place j ≡ at s.place j) (sym sub.0) (same s.place) in
      (ap (option_map (listener_of events)) e, (sub.0, ap is_some e ∙ sub.1))

  -- all whose numbers are in a range where nothing changes
  pub all_kept : (number : ℕ) (zs : List Named) → AreSubs at number zs
      → ((p j : ℕ) → number ≤ j → j < number + length zs → after p j ≡ at p j)
      → (map (subscriber_of events after) zs ≡ map (subscriber_of events at) zs) × AreSubs after number zs
  all_kept number [] subs same = (refl, tt)
  all_kept number (z ∷ zs) subs same =
      let one = one_kept number z.sub subs.0 (λ p. same p number (omega arith) (omega arith)) in
      let rest = all_kept (number + 1) zs subs.1 (λ p j low high. same p j (omega (arith, low)) (omega (arith, high))) in
      ((λ i. record { name = z.name; listens = one.0 i } ∷ rest.0 i), (one.1, rest.1))

  -- the first by a name is changed, and with it the connection of its number alone
  pub first_changes : (name : List ℕ) (s : Sub) (change : Named → Named) (changes : Subscriber → Subscriber)
      → ((p j : ℕ) → j ≢ s.number → after p j ≡ at p j)
      → ((z : Named) → z.sub ≡ Some s → (subscriber_of events after (change z) ≡ changes (subscriber_of events at z)) × IsSub after s.number (change z).sub)
      → (number : ℕ) (zs : List Named) → AreSubs at number zs → first_sub name zs ≡ Some s
      → (map (subscriber_of events after) (change_first change name zs) ≡ with_first (is_by name) changes (map (subscriber_of events at) zs))
      × AreSubs after number (change_first change name zs)
  unfolding first_sub with_first change_first
  first_changes name s change changes apart here number [] subs first = absurd cc
  first_changes name s change changes apart here number (z ∷ zs) subs first =
      go (has name z) (is_by name (subscriber_of events at z)) (same_test events at name number z subs.0)
      (first_changes name s change changes apart here (number + 1) zs subs.1) (is_there events at name s (number + 1) zs subs.1) first
    where
      go : (b d : Bool) → b ≡ d
          → (option_and_then (λ (y : Named). y.sub) (find (has name) zs) ≡ Some s
          → (map (subscriber_of events after) (change_first change name zs) ≡ with_first (is_by name) changes (map (subscriber_of events at) zs))
          × AreSubs after (number + 1) (change_first change name zs))
          → (option_and_then (λ (y : Named). y.sub) (find (has name) zs) ≡ Some s → (is_some (at s.place s.number) ≡ true) × (number + 1 ≤ s.number))
          → option_and_then (λ (y : Named). y.sub) (cond b (Some z) (find (has name) zs)) ≡ Some s
          → (map (subscriber_of events after) (if b then change z ∷ zs else z ∷ change_first change name zs)
          ≡ (if d then changes (subscriber_of events at z) ∷ map (subscriber_of events at) zs
          else subscriber_of events at z ∷ with_first (is_by name) changes (map (subscriber_of events at) zs)))
          × AreSubs after number (if b then change z ∷ zs else z ∷ change_first change name zs)
      go true true e more low first =
          let its : s.number ≡ number = (subst (λ (o : Option Sub). IsSub at number o) first subs.0).0 in
          let one = here z first in
          let rest = all_kept (number + 1) zs subs.1 (λ p j above high. apart p j (λ same. absurd (omega (arith, above, its, same)))) in
          ((λ i. one.0 i ∷ rest.0 i), (subst (λ (k : ℕ). IsSub after k (change z).sub) its one.1, rest.1))
      go true false e more low first = absurd cc
      go false true e more low first = absurd cc
      go false false e more low first =
          let one = one_kept number z.sub subs.0 (λ p. apart p number (λ same. absurd (omega (arith, (low first).1, same)))) in
          let rest = more first in
          ((λ i. record { name = z.name; listens = one.0 i } ∷ rest.0 i), (one.1, rest.1))

pub subs_push : (at : Connections) (z : Named) (number : ℕ) (zs : List Named) → AreSubs at number zs → IsSub at (number + length zs) z.sub
    → AreSubs at number (zs ++ z ∷ [])
subs_push at z number [] subs sub = (subst (λ (k : ℕ). IsSub at k z.sub) (omega arith) sub, tt)
subs_push at z number (y ∷ zs) subs sub =
    (subs.0, subs_push at z (number + 1) zs subs.1 (subst (λ (k : ℕ). IsSub at k z.sub) (omega arith) sub))

-- a list in which nothing is changed
pub unchanged : (name : List ℕ) (zs : List Named) → change_first (λ z. z) name zs ≡ zs
unfolding change_first
unchanged name [] = refl
unchanged name (z ∷ zs) = go (has name z) (unchanged name zs)
  where
    go : (b : Bool) → change_first (λ y. y) name zs ≡ zs → (if b then z ∷ zs else z ∷ change_first (λ y. y) name zs) ≡ z ∷ zs
    go true more = refl
    go false more = λ i. z ∷ more i
