-- Connections at their places, as subscribers come, go and look.
use Rattle.std.proofs.Common.{◌≡◌, ◌+◌, ◌-◌, ◌∷◌, [], ◌++◌, ◌&&◌, ℕ, Bool, true, false, List, Option, Some, None, length, refl, sym, ap, subst, ◌∙◌, arith}
use Rattle.std.specs.Prelude.{count_by, ◌≢◌, ◌==◌, nat_eq, if◌then◌else◌, is_some, slice_get, unwrap_or, Ok, Err}
use Rattle.std.specs.List.{filter}
use Rattle.std.proofs.lemmas.Bool.{eqb-true}
use Rattle.std.proofs.lemmas.Option.{slice_get_within}
use Rattle.std.proofs.Math.Seq.{drop-length}
use Rattle.slab.specs.Slab.{Slab, Updates, get, slab_len}
use Rattle.fault_notifier.specs.Filters.{Filter, matches}
use Rattle.fault_notifier.specs.Notifying.{Notified, Connection, next_event, with_connection, connected, disconnected, pushed}
use Rattle.fault_notifier.specs.Keeping.{Picture, StandsFor, Reads, ReadsAt, IsNext, IsPulledBy, refusal, refusal_of, numbered, subscriber_at, looked}
use Rattle.fault_notifier.specs.declared.events.FaultEvent.{FaultEvent}
use Rattle.fault_notifier.specs.declared.subscribers.Sub.{Sub}
use Rattle.fault_notifier.specs.declared.subscribers.Subscriber.{Subscriber}
use Rattle.fault_notifier.specs.declared.faults.NotifyFault.TheVariants as faults
use Rattle.fault_notifier.proofs.Reading.{nothing_next, something_next, looked_at_all, looked_at_one, one_more}

apart : (a b : ℕ) → nat_eq a b ≡ false → b ≢ a
apart a b other e = grind arith

-- one place changes, and there only what has this number
changed_reads : (events : List FaultEvent) (n : Notified) (s t : Slab Subscriber) (place number : ℕ) (c : Option Connection) (slot : Option Subscriber)
    → ((p k : ℕ) → ReadsAt events (n.at p k) (subscriber_at s.slots p k))
    → Updates s t place slot
    → ((k : ℕ) → nat_eq number k ≡ false → numbered k (get s place) ≡ numbered k slot)
    → ReadsAt events c (numbered number slot)
    → (p k : ℕ) → ReadsAt events (with_connection n place number c p k) (subscriber_at t.slots p k)
changed_reads events n s t place number c slot before updates away reads p k = go (nat_eq place p) refl (nat_eq number k) refl
  where
    go : (b : Bool) → nat_eq place p ≡ b → (d : Bool) → nat_eq number k ≡ d → ReadsAt events (if b && d then c else n.at p k) (numbered k (get t p))
    go true same true one =
        subst (λ (q : ℕ). ReadsAt events c (numbered k (get t q))) (eqb-true place p same)
        (subst (λ (j : ℕ). ReadsAt events c (numbered j (get t place))) (eqb-true number k one)
        (subst (λ (o : Option Subscriber). ReadsAt events c (numbered number o)) (sym updates.changed) reads))
    go true same false one =
        subst (λ (o : Option Subscriber). ReadsAt events (n.at p k) o)
        (subst (λ (q : ℕ). numbered k (get s q) ≡ numbered k (get t q)) (eqb-true place p same)
        (away k one ∙ ap (numbered k) (sym updates.changed)))
        (before p k)
    go false other d one =
        subst (λ (o : Option Subscriber). ReadsAt events (n.at p k) o) (ap (numbered k) (sym (updates.others p (apart place p other)))) (before p k)

-- ---- by number

has_number : (number : ℕ) (o : Option Subscriber) (s : Subscriber) → numbered number o ≡ Some s → (o ≡ Some s) × ((s.number == number) ≡ true)
has_number number None s e = absurd cc
has_number number (Some x) s e = go (x.number == number) refl e
  where
    go : (b : Bool) → (x.number == number) ≡ b → (if b then Some x else None) ≡ Some s → (Some x ≡ Some s) × ((s.number == number) ≡ true)
    go true one e = (e, subst (λ (y : Subscriber). (y.number == number) ≡ true) (ap (λ o. unwrap_or o x) e) one)
    go false one e = absurd cc

other_number : (number k : ℕ) (s : Subscriber) → (s.number == number) ≡ true → nat_eq number k ≡ false → numbered k (Some s) ≡ None
other_number number k s one other = go (s.number == k) refl
  where
    go : (b : Bool) → (s.number == k) ≡ b → (if b then Some s else None) ≡ None
    go true same = absurd (grind arith)
    go false differs = refl

this_number : (number : ℕ) (s : Subscriber) → (s.number == number) ≡ true → numbered number (Some s) ≡ Some s
this_number number s one = ap (λ b. if b then Some s else None) one

-- ---- refusals

pub refuses : (n : Notified) (kept : Picture) → StandsFor n kept → refusal n ≡ refusal_of (count_by is_some kept.places) kept.made
refuses n kept stands = ap (λ k. refusal_of k n.made) stands.connected ∙ ap (λ k. refusal_of (count_by is_some kept.places) k) stands.made

pub is_there : (n : Notified) (kept : Picture) (place number : ℕ) (s : Subscriber) → StandsFor n kept → subscriber_at kept.places place number ≡ Some s
    → is_some (n.at place number) ≡ true
is_there n kept place number s stands found =
    go (n.at place number) (subst (λ (o : Option Subscriber). ReadsAt kept.events (n.at place number) o) found (stands.at place number))
  where
    go : (w : Option Connection) → ReadsAt kept.events w (Some s) → is_some w ≡ true
    go None reads = absurd reads
    go (Some c) reads = refl

pub is_absent : (n : Notified) (kept : Picture) (place number : ℕ) → StandsFor n kept → subscriber_at kept.places place number ≡ None
    → n.at place number ≡ None
is_absent n kept place number stands none =
    go (n.at place number) (subst (λ (o : Option Subscriber). ReadsAt kept.events (n.at place number) o) none (stands.at place number))
  where
    go : (w : Option Connection) → ReadsAt kept.events w None → w ≡ None
    go None reads = refl
    go (Some c) reads = absurd reads

-- ---- a subscriber comes

pub connects : (n : Notified) (events : List FaultEvent) (made place : ℕ) (f : Filter) (s t : Slab Subscriber)
    → StandsFor n (record { events = events; made = made; places = s.slots })
    → get s place ≡ None
    → Updates s t place (Some (record { number = made + 1; filter = f; next = length events }))
    → slab_len t ≡ slab_len s + 1
    → StandsFor (connected n place f) (record { events = events; made = made + 1; places = t.slots })
connects n events made place f s t stands free put counted = record {
  events = stands.events;
  made = ap (λ k. k + 1) stands.made;
  connected = ap (λ k. k + 1) stands.connected ∙ sym counted;
  at = subst
      (λ (k : ℕ). (p number : ℕ) → ReadsAt events (with_connection n place (k + 1) (Some (record { filter = f; since = length n.events; read = 0 })) p number) (subscriber_at t.slots p number))
      (sym stands.made)
      (subst
      (λ (es : List FaultEvent). (p number : ℕ) → ReadsAt events (with_connection n place (made + 1) (Some (record { filter = f; since = length es; read = 0 })) p number) (subscriber_at t.slots p number))
      (sym stands.events)
      (changed_reads events n s t place (made + 1) (Some (record { filter = f; since = length events; read = 0 })) (Some new) stands.at put away
      (subst (λ (o : Option Subscriber). ReadsAt events (Some (record { filter = f; since = length events; read = 0 })) o) (sym (this_number (made + 1) new is_new)) reads)));
}
  where
    new : Subscriber
    new = record { number = made + 1; filter = f; next = length events }

    is_new : (new.number == made + 1) ≡ true
    is_new = grind arith

    away : (k : ℕ) → nat_eq (made + 1) k ≡ false → numbered k (get s place) ≡ numbered k (Some new)
    away k other = ap (numbered k) free ∙ sym (other_number (made + 1) k new is_new other)

    reads : Reads events (record { filter = f; since = length events; read = 0 }) new
    reads = record { lets = refl; since = omega arith; next = omega arith; seen = []; are = refl; read = refl }

-- ---- a subscriber that is there goes, or looks

found_there : (s : Slab Subscriber) (place number : ℕ) (sub : Subscriber) → subscriber_at s.slots place number ≡ Some sub
    → (get s place ≡ Some sub) × ((sub.number == number) ≡ true)
found_there s place number sub found = has_number number (get s place) sub found

away_from : (s : Slab Subscriber) (place number : ℕ) (sub : Subscriber) (slot : Option Subscriber) → subscriber_at s.slots place number ≡ Some sub
    → ((k : ℕ) → nat_eq number k ≡ false → numbered k slot ≡ None)
    → (k : ℕ) → nat_eq number k ≡ false → numbered k (get s place) ≡ numbered k slot
away_from s place number sub slot found none k other =
    let there = found_there s place number sub found in
    ap (numbered k) there.0 ∙ other_number number k sub there.1 other ∙ sym (none k other)

pub leaves : (n : Notified) (events : List FaultEvent) (made place number : ℕ) (sub : Subscriber) (s t : Slab Subscriber)
    → StandsFor n (record { events = events; made = made; places = s.slots })
    → subscriber_at s.slots place number ≡ Some sub
    → Updates s t place None
    → slab_len t + 1 ≡ slab_len s
    → StandsFor (disconnected n place number) (record { events = events; made = made; places = t.slots })
leaves n events made place number sub s t stands found out counted = record {
  events = stands.events;
  made = stands.made;
  connected = ap (λ k. k - 1) (stands.connected ∙ sym counted) ∙ less_one (slab_len t);
  at = changed_reads events n s t place number None None stands.at out (away_from s place number sub None found (λ k other. refl)) tt;
}
  where
    less_one : (k : ℕ) → k + 1 - 1 ≡ k
    less_one k = omega arith

-- what a subscriber has after it looked
has_looked : (s t : Slab Subscriber) (place number next : ℕ) (sub : Subscriber) → subscriber_at s.slots place number ≡ Some sub
    → Updates s t place (looked next (get s place)) → Updates s t place (Some (record sub { next = next }))
has_looked s t place number next sub found updates =
    subst (λ (o : Option Subscriber). Updates s t place (looked next o)) (found_there s place number sub found).0 updates

looks : (n : Notified) (events : List FaultEvent) (place number next : ℕ) (c : Connection) (sub : Subscriber) (s t : Slab Subscriber)
    → ((p k : ℕ) → ReadsAt events (n.at p k) (subscriber_at s.slots p k))
    → subscriber_at s.slots place number ≡ Some sub
    → Updates s t place (looked next (get s place))
    → Reads events c (record sub { next = next })
    → (p k : ℕ) → ReadsAt events (with_connection n place number (Some c) p k) (subscriber_at t.slots p k)
looks n events place number next c sub s t before found updates reads =
    let there = found_there s place number sub found in
    changed_reads events n s t place number (Some c) (Some (record sub { next = next })) before (has_looked s t place number next sub found updates)
    (away_from s place number sub (Some (record sub { next = next })) found (λ k other. other_number number k (record sub { next = next }) there.1 other))
    (subst (λ (o : Option Subscriber). ReadsAt events (Some c) o) (sym (this_number number (record sub { next = next }) there.1)) reads)

-- the same connection at its place changes nothing
same_there : (n : Notified) (place number p k : ℕ) (c : Option Connection) → n.at place number ≡ c → with_connection n place number c p k ≡ n.at p k
same_there n place number p k c is = go (nat_eq place p) refl (nat_eq number k) refl
  where
    go : (b : Bool) → nat_eq place p ≡ b → (d : Bool) → nat_eq number k ≡ d → (if b && d then c else n.at p k) ≡ n.at p k
    go true same true one = sym is ∙ ap (λ q. n.at q number) (eqb-true place p same) ∙ ap (λ j. n.at p j) (eqb-true number k one)
    go true same false one = refl
    go false other d one = refl

-- ---- pulling

reads_there : (n : Notified) (events : List FaultEvent) (made place number : ℕ) (places : List (Option Subscriber)) (w : Option Connection) (found : Option Subscriber)
    → StandsFor n (record { events = events; made = made; places = places }) → n.at place number ≡ w → subscriber_at places place number ≡ found
    → ReadsAt events w found
reads_there n events made place number places w found stands is at =
    subst (λ (o : Option Connection). ReadsAt events o found) is (subst (λ (o : Option Subscriber). ReadsAt events (n.at place number) o) at (stands.at place number))

pub pulls_absent : (n : Notified) (events : List FaultEvent) (made : ℕ) (sub : Sub) (places : List (Option Subscriber))
    → StandsFor n (record { events = events; made = made; places = places })
    → subscriber_at places sub.place sub.number ≡ None
    → IsPulledBy n sub (n.at sub.place sub.number) (Err faults.NoSubscriber) (record { events = events; made = made; places = places })
pulls_absent n events made sub places stands none = go (n.at sub.place sub.number) refl
  where
    go : (w : Option Connection) → n.at sub.place sub.number ≡ w → IsPulledBy n sub w (Err faults.NoSubscriber) (record { events = events; made = made; places = places })
    go None is = stands
    go (Some c) is = reads_there n events made sub.place sub.number places (Some c) None stands is none

pub pulls_no_memory : (n : Notified) (events : List FaultEvent) (made at : ℕ) (sub : Sub) (s : Subscriber) (places : List (Option Subscriber))
    → StandsFor n (record { events = events; made = made; places = places })
    → subscriber_at places sub.place sub.number ≡ Some s
    → IsNext (matches s.filter) events s.next (Some at)
    → IsPulledBy n sub (n.at sub.place sub.number) (Err faults.NoMemory) (record { events = events; made = made; places = places })
pulls_no_memory n events made at sub s places stands found next = go (n.at sub.place sub.number) refl
  where
    go : (w : Option Connection) → n.at sub.place sub.number ≡ w → IsPulledBy n sub w (Err faults.NoMemory) (record { events = events; made = made; places = places })
    go None is = reads_there n events made sub.place sub.number places None (Some s) stands is found
    go (Some c) is =
        let reads = reads_there n events made sub.place sub.number places (Some c) (Some s) stands is found in (
          subst (λ (es : List FaultEvent). is_some (next_event es c) ≡ true) (sym stands.events) (ap is_some (something_next events c s at reads next)),
          stands,
        )

pub pulls_nothing : (n : Notified) (events : List FaultEvent) (made : ℕ) (sub : Sub) (subscriber : Subscriber) (s t : Slab Subscriber)
    → StandsFor n (record { events = events; made = made; places = s.slots })
    → subscriber_at s.slots sub.place sub.number ≡ Some subscriber
    → IsNext (matches subscriber.filter) events subscriber.next None
    → Updates s t sub.place (looked (length events) (get s sub.place))
    → slab_len t ≡ slab_len s
    → IsPulledBy n sub (n.at sub.place sub.number) (Ok None) (record { events = events; made = made; places = t.slots })
pulls_nothing n events made sub subscriber s t stands found none updates counted = go (n.at sub.place sub.number) refl
  where
    go : (w : Option Connection) → n.at sub.place sub.number ≡ w → IsPulledBy n sub w (Ok None) (record { events = events; made = made; places = t.slots })
    go None is = reads_there n events made sub.place sub.number s.slots None (Some subscriber) stands is found
    go (Some c) is =
        let reads = reads_there n events made sub.place sub.number s.slots (Some c) (Some subscriber) stands is found in (
          subst (λ (es : List FaultEvent). next_event es c ≡ None) (sym stands.events) (nothing_next events c subscriber reads none),
          record {
            events = stands.events;
            made = stands.made;
            connected = stands.connected ∙ sym counted;
            at = λ p k. subst (λ (o : Option Connection). ReadsAt events o (subscriber_at t.slots p k)) (same_there n sub.place sub.number p k (Some c) is)
                (looks n events sub.place sub.number (length events) c subscriber s t stands.at found updates
                (looked_at_all events c subscriber reads none (ap (filter (matches subscriber.filter)) (drop-length events))) p k);
          },
        )

pub pulls_event : (n : Notified) (events : List FaultEvent) (made at : ℕ) (event : FaultEvent) (sub : Sub) (subscriber : Subscriber) (s t : Slab Subscriber)
    → StandsFor n (record { events = events; made = made; places = s.slots })
    → subscriber_at s.slots sub.place sub.number ≡ Some subscriber
    → (next : IsNext (matches subscriber.filter) events subscriber.next (Some at))
    → slice_get events at ≡ Some event
    → Updates s t sub.place (looked (at + 1) (get s sub.place))
    → slab_len t ≡ slab_len s
    → IsPulledBy n sub (n.at sub.place sub.number) (Ok (Some event)) (record { events = events; made = made; places = t.slots })
pulls_event n events made at event sub subscriber s t stands found next there updates counted = go (n.at sub.place sub.number) refl
  where
    go : (w : Option Connection) → n.at sub.place sub.number ≡ w → IsPulledBy n sub w (Ok (Some event)) (record { events = events; made = made; places = t.slots })
    go None is = reads_there n events made sub.place sub.number s.slots None (Some subscriber) stands is found
    go (Some c) is =
        let reads = reads_there n events made sub.place sub.number s.slots (Some c) (Some subscriber) stands is found in (
          subst (λ (es : List FaultEvent). next_event es c ≡ Some event) (sym stands.events) (something_next events c subscriber at reads next ∙ sym next.1 ∙ there),
          record {
            events = stands.events;
            made = stands.made;
            connected = stands.connected ∙ sym counted;
            at = looks n events sub.place sub.number (at + 1) (record c { read = c.read + 1 }) subscriber s t stands.at found updates
                (looked_at_one events c subscriber at reads next (slice_get_within events at event there));
          },
        )

-- ---- an event comes

pub pushes : (n : Notified) (events : List FaultEvent) (made : ℕ) (places : List (Option Subscriber)) (event : FaultEvent)
    → StandsFor n (record { events = events; made = made; places = places })
    → StandsFor (pushed n event) (record { events = events ++ event ∷ []; made = made; places = places })
pushes n events made places event stands = record {
  events = ap (λ es. es ++ event ∷ []) stands.events;
  made = stands.made;
  connected = stands.connected;
  at = λ p k. go (n.at p k) (subscriber_at places p k) (stands.at p k);
}
  where
    go : (c : Option Connection) (s : Option Subscriber) → ReadsAt events c s → ReadsAt (events ++ event ∷ []) c s
    go None None reads = tt
    go None (Some s) reads = reads
    go (Some c) None reads = reads
    go (Some c) (Some s) reads = one_more events event c s reads
