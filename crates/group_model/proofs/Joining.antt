-- A request that the journal says is new joins a sound journal soundly.
use Rattle.std.proofs.Common.{◌≡◌, ℕ, ◌<◌, ◌≤◌, List, [], ◌∷◌, ◌++◌, length, length-append, Option, Some, None, refl, subst, leb-false, arith}
use Rattle.std.specs.Prelude.{nat_le, slice_get}
use Rattle.std.specs.List.{AllByRecursion}
use Rattle.ft_base.specs.Machine.{Machine}
use Rattle.ft_base.specs.Journal.{Entry, held}
use Rattle.ft_base.specs.Laws.{JournalGoesOn, AllGoOnFitting}
use Rattle.ft_base.specs.declared.limits.TheConstants.{ARGUMENTS_LIMIT, JOURNAL_LIMIT}
use Rattle.ft_base.specs.declared.requests.Key.{Key}
use Rattle.ft_base.specs.declared.requests.Request.{Request}
use Rattle.ft_base.specs.Admissions.{admission, by_key, by_room, against_held, against_entry, says_same}
use Rattle.ft_base.specs.declared.admissions.Admission.{Admission}
use Rattle.ft_base.specs.declared.admissions.Admission.TheVariants.{Expired, Same, Other, Full, New}
use Rattle.group_model.specs.Agreeing.{IsLogged}
use Rattle.group_model.proofs.Reading.{Runs}
use Rattle.group_model.proofs.Choosing.{either_so}

-- ---- what a new request is

-- an admission by room alone
abbrev IfNew : Type 0 → Admission → Type 0
IfNew P (Expired e) = Unit {0}
IfNew P (Same i) = Unit {0}
IfNew P (Other i) = Unit {0}
IfNew P Full = Unit {0}
IfNew P New = P

room_new : (journal : List Entry) → IfNew (length journal < JOURNAL_LIMIT) (by_room (length journal))
room_new journal =
    either_so (IfNew (length journal < JOURNAL_LIMIT)) (nat_le JOURNAL_LIMIT (length journal)) Full New
    (λ full. tt) (λ room. leb-false JOURNAL_LIMIT (length journal) room)

entry_new : (P : Type 0) (i : ℕ) (q : Request) (key : Key) (o : Option Entry) → IfNew P (against_entry i q key o)
entry_new P i q key None = tt
entry_new P i q key (Some entry) = either_so (IfNew P) (says_same q key entry.request) (Same i) (Other i) (λ same. tt) (λ other. tt)

-- there is room, and this key is free in time
pub record IsFree (journal : List Entry) (now : ℕ) (o : Option Key) : Type 0 where
  pub room : length journal < JOURNAL_LIMIT
  pub in_time : (key : Key) → o ≡ Some key → now < key.expiration.0
  pub free : (key : Key) → o ≡ Some key → held journal key now ≡ None

more_new : (P Q : Type 0) (a : Admission) → (P → Q) → IfNew P a → IfNew Q a
more_new P Q (Expired e) f x = tt
more_new P Q (Same i) f x = tt
more_new P Q (Other i) f x = tt
more_new P Q Full f x = tt
more_new P Q New f x = f x

held_new : (journal : List Entry) (q : Request) (key : Key) (o : Option ℕ) → IfNew ((length journal < JOURNAL_LIMIT) × (o ≡ None)) (against_held journal q key o)
held_new journal q key None = more_new (length journal < JOURNAL_LIMIT) ((length journal < JOURNAL_LIMIT) × (None ≡ None)) (by_room (length journal)) (λ room. (room, refl)) (room_new journal)
held_new journal q key (Some i) = entry_new ((length journal < JOURNAL_LIMIT) × (Some i ≡ None)) i q key (slice_get journal i)

some_is : (x y : Key) → Some x ≡ Some y → x ≡ y
some_is x y e = cc

key_new : (journal : List Entry) (now : ℕ) (q : Request) (o : Option Key) → IfNew (IsFree journal now o) (by_key journal now q o)
key_new journal now q None =
    more_new (length journal < JOURNAL_LIMIT) (IsFree journal now None) (by_room (length journal))
    (λ room. record { room = room; in_time = λ key e. absurd cc; free = λ key e. absurd cc }) (room_new journal)
key_new journal now q (Some key) =
    either_so (IfNew (IsFree journal now (Some key))) (nat_le key.expiration.0 now) (Expired key.expiration) (against_held journal q key (held journal key now))
    (λ past. tt)
    (λ later. more_new ((length journal < JOURNAL_LIMIT) × (held journal key now ≡ None)) (IsFree journal now (Some key)) (against_held journal q key (held journal key now))
    (λ both. record {
      room = both.0;
      in_time = λ other e. subst (λ (k : Key). now < k.expiration.0) (some_is key other e) (leb-false key.expiration.0 now later);
      free = λ other e. subst (λ (k : Key). held journal k now ≡ None) (some_is key other e) both.1;
    }) (held_new journal q key (held journal key now)))

pub is_new : (journal : List Entry) (now : ℕ) (q : Request) → admission journal now q ≡ New → IsFree journal now q.key
is_new journal now q e = subst (IfNew (IsFree journal now q.key)) e (key_new journal now q q.key)

-- ---- the journal

all_push : {A : Type 0} (P : A → Type 0) (xs : List A) (x : A) → AllByRecursion P xs → P x → AllByRecursion P (xs ++ x ∷ [])
all_push P [] x all p = (p, tt)
all_push P (y ∷ xs) x all p = (all.0, all_push P xs x all.1 p)

pub logged_joins : JournalGoesOn → AllGoOnFitting → (m : Machine) (time now : ℕ) (journal : List Entry) (q : Request) →
    IsLogged m time journal → time ≤ now → Runs m q → admission journal now q ≡ New → IsLogged m now (journal ++ record { at = now; request = q } ∷ [])
logged_joins goes fitting m time now journal q logged later runs new =
    let free = is_new journal now q new in
    let entry : Entry = record { at = now; request = q } in
    record {
      few = omega (arith, free.room, length-append journal (entry ∷ []));
      so = goes time journal entry logged.so later (record { in_time = free.in_time; free = free.free });
      fit = fitting m journal entry logged.fit runs.0;
      short = all_push (λ (e : Entry). length e.request.args ≤ ARGUMENTS_LIMIT) journal entry logged.short runs.1;
    }

-- later than all acceptances
pub logged_later : (m : Machine) (time now : ℕ) (journal : List Entry) → IsLogged m time journal → time ≤ now → IsLogged m now journal
logged_later m time now journal logged later = record {
  few = logged.few;
  so = record {
    before = λ i entry is. let early = logged.so.before i entry is in omega (arith, early, later);
    ticks = logged.so.ticks;
    once = logged.so.once;
  };
  fit = logged.fit;
  short = logged.short;
}
