-- A log says of a request what its group's journal says, and has the reply that a repeat asks for.
use Rattle.std.proofs.Common.{◌≡◌, ℕ, ◌<◌, max, Bool, true, false, cond, true≢false, if◌then◌else◌, List, length, Option, Some, None, refl, sym, ap, subst, ◌∙◌, arith}
use Rattle.std.specs.Prelude.{◌&&◌, ◌==◌, nat_le, nat_lt, slice_get}
use Rattle.std.specs.Ordering.{int_eq}
use Rattle.std.specs.Str.{bytes_eq}
use Rattle.std.specs.Option.{option_and_then}
use Rattle.std.proofs.lemmas.Bool.{ltb-true}
use Rattle.std.proofs.lemmas.Bool.Decides.{nat_tests}
use Rattle.std.proofs.lemmas.Option.{slice_get_within}
use Rattle.ft_base.specs.Machine.{Machine}
use Rattle.ft_base.specs.Journal.{Entry, held, is_held, is_held_by, reply_at}
use Rattle.ft_base.specs.declared.limits.TheConstants.{JOURNAL_LIMIT}
use Rattle.ft_base.specs.declared.requests.Key.{Key}
use Rattle.ft_base.specs.declared.requests.Outcome.{Outcome}
use Rattle.ft_base.specs.declared.requests.Request.{Request}
use Rattle.reply_table.specs.Entries.{reply_of}
use Rattle.reply_table.specs.declared.entries.Retained.{Retained}
use Rattle.message_log.specs.Admission.{unless_deposed, admitted_by, admitted}
use Rattle.message_log.specs.Laws.{AdmitsAsJournal}
use Rattle.message_log.specs.Picture.{Picture as LogPicture}
use Rattle.message_log.specs.declared.answers.Admit.TheVariants as admits
use Rattle.ft_replica.specs.Picture.{Picture as ReplicaPicture}
use Rattle.group_model.specs.Plain.{Common, Place}
use Rattle.group_model.specs.Views.{newest}
use Rattle.ft_base.specs.Admissions.{admission, by_key, by_room, against_held, against_entry, says_same}
use Rattle.ft_base.specs.declared.admissions.Admission.{Admission}
use Rattle.ft_base.specs.declared.admissions.Admission.TheVariants.{Expired, Same, Other, Full, New}
use Rattle.group_stands.specs.Stands.{LogStands, ReplicaStands, IsCaughtUp, reply_once_run}
use Rattle.group_stands.proofs.Places.{Passes, last_passes, find_there}
use Rattle.group_stands.proofs.Tells.{version_told}

-- what holds of both, each where the test says so
pub either_so : {A : Type 0} (P : A → Type 0) (b : Bool) (x y : A) → (b ≡ true → P x) → (b ≡ false → P y) → P (if b then x else y)
either_so P true x y p q = p refl
either_so P false x y p q = q refl

-- ---- both say the same

pub not_deposed : (version n : ℕ) (says : Admission) → version ≡ n → unless_deposed n version says ≡ admits.Admission says
not_deposed version n says is = let no : nat_lt version n ≡ false = grind (arith, nat_tests) in ap (λ b. cond b (admits.Deposed (record { 0 = n })) (admits.Admission says)) no

pub log_admits : AdmitsAsJournal → (machines : ℕ → Machine) (c : Common) (log : LogPicture) → LogStands machines c log →
    (version clock : ℕ) (q : Request) → version ≡ newest c → admitted log version clock q ≡ admits.Admission (admission c.journal (max clock c.time) q)
log_admits law machines c log s version clock q knows =
    let known : version ≡ log.newest.version.0 = knows ∙ sym (version_told machines c log s) in
    law c.journal log s.journal version clock q
    ∙ ap (λ (time : ℕ). admitted_by log.newest.version.0 c.journal time version clock q) s.time
    ∙ not_deposed version log.newest.version.0 (admission c.journal (max clock c.time) q) known

-- ---- an entry that is repeated

abbrev IfSame : (ℕ → Type 0) → Admission → Type 0
IfSame P (Expired e) = Unit {0}
IfSame P (Same i) = P i
IfSame P (Other i) = Unit {0}
IfSame P Full = Unit {0}
IfSame P New = Unit {0}

-- the entry holds a key at that moment
abbrev HoldsAKey : List Entry → ℕ → ℕ → Type 0
HoldsAKey journal now i = (key : Key) × Passes (is_held now key) journal i

same_room : (journal : List Entry) (now : ℕ) → IfSame (HoldsAKey journal now) (by_room (length journal))
same_room journal now = either_so (IfSame (HoldsAKey journal now)) (nat_le JOURNAL_LIMIT (length journal)) Full New (λ full. tt) (λ room. tt)

same_entry : (journal : List Entry) (now i : ℕ) (q : Request) (key : Key) (o : Option Entry) → HoldsAKey journal now i → IfSame (HoldsAKey journal now) (against_entry i q key o)
same_entry journal now i q key None holds = tt
same_entry journal now i q key (Some e) holds =
    either_so (IfSame (HoldsAKey journal now)) (says_same q key e.request) (Same i) (Other i) (λ same. holds) (λ other. tt)

same_held : (journal : List Entry) (now : ℕ) (q : Request) (key : Key) (o : Option ℕ) → held journal key now ≡ o → IfSame (HoldsAKey journal now) (against_held journal q key o)
same_held journal now q key None is = same_room journal now
same_held journal now q key (Some i) is = same_entry journal now i q key (slice_get journal i) (key, last_passes (is_held now key) journal i is)

same_key : (journal : List Entry) (now : ℕ) (q : Request) (key : Option Key) → IfSame (HoldsAKey journal now) (by_key journal now q key)
same_key journal now q None = same_room journal now
same_key journal now q (Some key) =
    either_so (IfSame (HoldsAKey journal now)) (nat_le key.expiration.0 now) (Expired key.expiration) (against_held journal q key (held journal key now))
    (λ past. tt) (λ later. same_held journal now q key (held journal key now) refl)

both_true : (a b : Bool) → (a && b) ≡ true → b ≡ true
both_true true b h = h
both_true false b h = absurd (true≢false (sym h))

-- one that holds a key has one, whose expiration is still to come
alive : (now : ℕ) (key : Key) (o : Option Key) → is_held_by now key o ≡ true → (k : Key) × (o ≡ Some k) × (now < k.expiration.0)
alive now key None h = absurd (true≢false (sym h))
alive now key (Some k) h =
    (k, refl, ltb-true now k.expiration.0 (both_true (bytes_eq key.client k.client && int_eq key.retention.0 k.retention.0) (nat_lt now k.expiration.0) h))

-- the reply that the table has of a retained entry
reply_there : (table : List Retained) (reply : ℕ → Option Outcome) → ((n : ℕ) (r : Retained) → slice_get table n ≡ Some r → r.reply ≡ reply r.position) →
    (i n : ℕ) (r : Retained) → slice_get table n ≡ Some r → r.position ≡ i → reply_of table i ≡ reply i
reply_there table reply are i n r at is =
    let here : (r.position == i) ≡ true = grind (arith, nat_tests) in
    let f = find_there (λ (e : Retained). e.position == i) table n r at here in
    let place : f.value.position ≡ i = let p = f.passes in grind (arith, nat_tests) in
    ap (option_and_then (λ (e : Retained). e.reply)) f.is ∙ are f.place f.value f.at ∙ ap reply place

pub repeat_answered : (machines : ℕ → Machine) (c : Common) (log : LogPicture) → LogStands machines c log →
    (clock i : ℕ) (q : Request) → admission c.journal (max clock c.time) q ≡ Same i →
    (i < length c.journal) × (reply_of log.table i ≡ reply_once_run (machines c.kind) c.opening c.journal c.ran i)
repeat_answered machines c log s clock i q same =
    let now = max clock c.time in
    let holds : HoldsAKey c.journal now i = subst (IfSame (HoldsAKey c.journal now)) same (same_key c.journal now q q.key) in
    let p = holds.1 in
    let k = alive now holds.0 p.value.request.key p.passes in
    let retained = s.journal.table.kept i p.value k.0 p.at k.1 (omega (arith, k.2, s.time)) in (
      slice_get_within c.journal i p.value p.at,
      reply_there log.table (reply_once_run (machines c.kind) c.opening c.journal c.ran) s.replies i retained.index retained.entry retained.at retained.is,
    )

-- ---- where some host has caught up

pub caught_up_ran : (machines : ℕ → Machine) (c : Common) (log : LogPicture) (replica : ReplicaPicture) (place : Place) →
    LogStands machines c log → ReplicaStands machines c replica place → IsCaughtUp c place → c.ran ≡ length c.journal
caught_up_ran machines c log replica place s stands caught = omega (arith, caught.end, stands.ran, s.sound.numbers.ran)

pub caught_up_repeats : (machines : ℕ → Machine) (c : Common) (log : LogPicture) (replica : ReplicaPicture) (place : Place) →
    LogStands machines c log → ReplicaStands machines c replica place → IsCaughtUp c place →
    (clock i : ℕ) (q : Request) → admission c.journal (max clock c.time) q ≡ Same i → reply_of log.table i ≡ Some (reply_at (machines c.kind) c.opening c.journal i)
caught_up_repeats machines c log replica place s stands caught clock i q same =
    let told = repeat_answered machines c log s clock i q same in
    let ran = caught_up_ran machines c log replica place s stands caught in
    let inside = told.0 in
    let run : nat_lt i c.ran ≡ true = grind (arith, nat_tests) in
    told.1 ∙ ap (λ b. cond b (Some (reply_at (machines c.kind) c.opening c.journal i)) None) run
