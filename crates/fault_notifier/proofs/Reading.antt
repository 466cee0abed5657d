-- What a connection has read, as events are pushed and looked at.
use Rattle.std.proofs.Common.{◌≡◌, ◌+◌, ◌<◌, ◌∷◌, [], ◌++◌, ℕ, Bool, true, false, List, Some, None, suc, add-one, cond, drop, length, refl, sym, ap, ◌∙◌, arith}
use Rattle.std.specs.Prelude.{slice_get}
use Rattle.std.specs.List.{filter}
use Rattle.std.proofs.lemmas.List.{drop-append-le, length-append, append_assoc}
use Rattle.std.proofs.Math.Seq.{drop-cons}
use Rattle.std.proofs.lemmas.Option.{get_or_from_slice_get}
use Rattle.std.proofs.lemmas.List.Elements.{filter-append}
use Rattle.fault_notifier.specs.Filters.{Filter, matches}
use Rattle.fault_notifier.specs.Notifying.{Connection, next_event, events_of}
use Rattle.fault_notifier.specs.Keeping.{Reads, IsNext}
use Rattle.fault_notifier.specs.declared.events.FaultEvent.{FaultEvent}
use Rattle.fault_notifier.specs.declared.subscribers.Subscriber.{Subscriber}

get_behind : {A : Type 0} (xs ys : List A) → slice_get (xs ++ ys) (length xs) ≡ slice_get ys 0
get_behind [] ys = refl
get_behind (x ∷ xs) ys = get_behind xs ys

-- the events of a connection that it hasn't looked at, by its subscriber's filter
its_rest : (events : List FaultEvent) (c : Connection) (s : Subscriber) (reads : Reads events c s)
    → events_of events c ≡ reads.seen ++ filter (matches s.filter) (drop s.next events)
its_rest events c s reads = reads.are ∙ ap (λ (f : Filter). reads.seen ++ filter (matches f) (drop s.next events)) reads.lets

next_of_rest : (events : List FaultEvent) (c : Connection) (s : Subscriber) → Reads events c s
    → next_event events c ≡ slice_get (filter (matches s.filter) (drop s.next events)) 0
next_of_rest events c s reads =
    ap (λ es. slice_get es c.read) (its_rest events c s reads)
    ∙ ap (λ n. slice_get (reads.seen ++ filter (matches s.filter) (drop s.next events)) n) (sym reads.read)
    ∙ get_behind reads.seen (filter (matches s.filter) (drop s.next events))

pub nothing_next : (events : List FaultEvent) (c : Connection) (s : Subscriber) → Reads events c s
    → IsNext (matches s.filter) events s.next None → next_event events c ≡ None
nothing_next events c s reads none = next_of_rest events c s reads ∙ ap (λ es. slice_get es 0) none

pub something_next : (events : List FaultEvent) (c : Connection) (s : Subscriber) (at : ℕ) → Reads events c s
    → (next : IsNext (matches s.filter) events s.next (Some at)) → next_event events c ≡ Some next.0
something_next events c s at reads next = next_of_rest events c s reads ∙ ap (λ es. slice_get es 0) next.2

-- it has looked at all
pub looked_at_all : (events : List FaultEvent) (c : Connection) (s : Subscriber) → Reads events c s
    → IsNext (matches s.filter) events s.next None → filter (matches s.filter) (drop (length events) events) ≡ [] → Reads events c (record s { next = length events })
looked_at_all events c s reads none past = record {
  lets = reads.lets;
  since = reads.since;
  next = omega arith;
  seen = reads.seen;
  are = its_rest events c s reads ∙ ap (λ es. reads.seen ++ es) (none ∙ sym past)
      ∙ ap (λ (f : Filter). reads.seen ++ filter (matches f) (drop (length events) events)) (sym reads.lets);
  read = reads.read;
}

-- it has looked at the events up to one that it has read now
pub looked_at_one : (events : List FaultEvent) (c : Connection) (s : Subscriber) (at : ℕ) → Reads events c s
    → IsNext (matches s.filter) events s.next (Some at) → at < length events → Reads events (record c { read = c.read + 1 }) (record s { next = at + 1 })
looked_at_one events c s at reads next within = record {
  lets = reads.lets;
  since = reads.since;
  next = omega arith;
  seen = reads.seen ++ next.0 ∷ [];
  are = its_rest events c s reads ∙ ap (λ es. reads.seen ++ es) next.2
      ∙ sym (append_assoc reads.seen (next.0 ∷ []) (filter (matches s.filter) (drop (at + 1) events)))
      ∙ ap (λ (f : Filter). (reads.seen ++ next.0 ∷ []) ++ filter (matches f) (drop (at + 1) events)) (sym reads.lets);
  read = length-append reads.seen (next.0 ∷ []) ∙ ap (λ n. n + 1) reads.read;
}

-- one event more is pushed
pub one_more : (events : List FaultEvent) (event : FaultEvent) (c : Connection) (s : Subscriber) → Reads events c s
    → Reads (events ++ event ∷ []) c s
one_more events event c s reads =
    let long : length (events ++ event ∷ []) ≡ length events + 1 = length-append events (event ∷ []) in
    record {
      lets = reads.lets;
      since = omega (arith, long, reads.since);
      next = omega (arith, long, reads.next);
      seen = reads.seen;
      are = ap (filter (matches c.filter)) (drop-append-le c.since events (event ∷ []) reads.since)
          ∙ filter-append (matches c.filter) (drop c.since events) (event ∷ [])
          ∙ ap (λ es. es ++ filter (matches c.filter) (event ∷ [])) reads.are
          ∙ append_assoc reads.seen (filter (matches c.filter) (drop s.next events)) (filter (matches c.filter) (event ∷ []))
          ∙ ap (λ es. reads.seen ++ es) (sym (filter-append (matches c.filter) (drop s.next events) (event ∷ [])))
          ∙ ap (λ es. reads.seen ++ filter (matches c.filter) es) (sym (drop-append-le s.next events (event ∷ []) reads.next));
      read = reads.read;
    }

-- the elements from a place on, by the one at it
front_at : {A : Type 0} (xs : List A) (at : ℕ) (x : A) → at < length xs → slice_get xs at ≡ Some x → drop at xs ≡ x ∷ drop (at + 1) xs
front_at xs at x within there =
    rw add-one (drop-cons xs at x within ∙ ap (λ y. y ∷ drop (suc at) xs) (get_or_from_slice_get xs at x x there))

-- the first that passes, where nothing before it does
pub found_next : {A : Type 0} (test : A → Bool) (xs : List A) (start at : ℕ) (x : A) → filter test (drop start xs) ≡ filter test (drop at xs)
    → at < length xs → slice_get xs at ≡ Some x → test x ≡ true → IsNext test xs start (Some at)
found_next test xs start at x same within there passes = (
  x,
  there,
  same ∙ ap (filter test) (front_at xs at x within there)
      ∙ ap (λ b. cond b (x ∷ filter test (drop (at + 1) xs)) (filter test (drop (at + 1) xs))) passes,
)

-- one that doesn't pass is passed over
pub passed_over : {A : Type 0} (test : A → Bool) (xs : List A) (start at : ℕ) (x : A) → filter test (drop start xs) ≡ filter test (drop at xs)
    → at < length xs → slice_get xs at ≡ Some x → test x ≡ false → filter test (drop start xs) ≡ filter test (drop (at + 1) xs)
passed_over test xs start at x same within there fails =
    same ∙ ap (filter test) (front_at xs at x within there)
    ∙ ap (λ b. cond b (x ∷ filter test (drop (at + 1) xs)) (filter test (drop (at + 1) xs))) fails
