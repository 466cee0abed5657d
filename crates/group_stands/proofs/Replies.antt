-- The reply that a log has for a key is the one that its group holds.
use Rattle.std.proofs.Common.{◌≡◌, ℕ, suc, max, Bool, true, false, if◌then◌else◌, List, [], ◌∷◌, length, Option, Some, None, refl, sym, ap, subst, ◌∙◌, arith}
use Rattle.std.specs.Prelude.{nat_le, slice_get, option_map}
use Rattle.std.specs.List.{find}
use Rattle.std.specs.Option.{option_and_then}
use Rattle.std.proofs.lemmas.Bool.Decides.{nat_tests}
use Rattle.ft_base.specs.Machine.{Machine}
use Rattle.ft_base.specs.Admissions.{by_key, by_room, against_held, against_entry, says_same}
use Rattle.ft_base.specs.Journal.{Entry, held, is_held_by, last_place}
use Rattle.ft_base.specs.declared.admissions.Admission.{Admission}
use Rattle.ft_base.specs.declared.admissions.Admission.TheVariants.{Expired, Same, Other, Full, New}
use Rattle.ft_base.specs.declared.limits.TheConstants.{JOURNAL_LIMIT}
use Rattle.ft_base.specs.declared.requests.Key.{Key}
use Rattle.ft_base.specs.declared.requests.Request.{Request}
use Rattle.reply_table.specs.Entries.{against, holder}
use Rattle.reply_table.specs.declared.entries.Found.TheVariants as founds
use Rattle.reply_table.specs.declared.entries.Retained.{Retained}
use Rattle.message_log.specs.Admission.{by_found, by_table}
use Rattle.message_log.specs.Laws.{AdmitsAsJournal}
use Rattle.message_log.specs.Picture.{Picture as LogPicture, length_of}
use Rattle.group_model.specs.Plain.{Common}
use Rattle.group_model.specs.Views.{newest}
use Rattle.group_stands.specs.Replying.{held_reply, LogsReply}
use Rattle.group_stands.specs.Stands.{LogStands, reply_once_run}
use Rattle.group_stands.proofs.Admits.{either_so, log_admits, not_deposed}
use Rattle.group_stands.proofs.Tells.{version_told}

-- ---- the entry that an admission names

abbrev place_in : Admission → Option ℕ
place_in (Same i) = Some i
place_in (Other i) = Some i
place_in other = None

room_place : (count : ℕ) → place_in (by_room count) ≡ None
room_place count = either_so (λ (a : Admission). place_in a ≡ None) (nat_le JOURNAL_LIMIT count) Full New (λ e. refl) (λ e. refl)

table_place : (count : ℕ) (q : Request) (key : Key) (o : Option Retained) → place_in (by_found count (against q key o)) ≡ option_map (λ (r : Retained). r.position) o
table_place count q key None = room_place count
table_place count q key (Some r) = go (says_same q key r.request) where
  go : (b : Bool) → place_in (by_found count (if b then founds.Same r.position else founds.Other r.position)) ≡ Some r.position
  go true = refl
  go false = refl

entry_place : (i : ℕ) (q : Request) (key : Key) (o : Option Entry) → place_in (against_entry i q key o) ≡ Some i
entry_place i q key None = refl
entry_place i q key (Some e) = go (says_same q key e.request) where
  go : (b : Bool) → place_in (if b then Same i else Other i) ≡ Some i
  go true = refl
  go false = refl

journal_place : (journal : List Entry) (q : Request) (key : Key) (o : Option ℕ) → place_in (against_held journal q key o) ≡ o
journal_place journal q key None = room_place (length journal)
journal_place journal q key (Some i) = entry_place i q key (slice_get journal i)

-- ---- a key whose expiration is still to come

-- only the client and the retention id say which entry holds it
abbrev until : ℕ → Key → Key
until time key = record key { expiration = record { 0 = time } }

same_call : (now time : ℕ) (key : Key) (o : Option Key) → is_held_by now (until time key) o ≡ is_held_by now key o
same_call now time key None = refl
same_call now time key (Some other) = refl

same_holder : (now time : ℕ) (key : Key) (table : List Retained) → holder table (until time key) now ≡ holder table key now
same_holder now time key table = ap (λ (test : Retained → Bool). find test table) (λ i r. same_call now time key r.request.key i)

same_held : (now time : ℕ) (key : Key) (journal : List Entry) → held journal (until time key) now ≡ held journal key now
same_held now time key journal = ap (λ (test : Entry → Bool). last_place test journal) (λ i e. same_call now time key e.request.key i)

-- ---- what is found

find_place : {X : Type 0} (test : X → Bool) (xs : List X) (x : X) → find test xs ≡ Some x → (n : ℕ) × (slice_get xs n ≡ Some x)
find_place test [] x e = absurd cc
find_place test (y ∷ xs) x e = go (test y) e (find_place test xs x) where
  go : (b : Bool) → (if b then Some y else find test xs) ≡ Some x → (find test xs ≡ Some x → (n : ℕ) × (slice_get xs n ≡ Some x)) → (n : ℕ) × (slice_get (y ∷ xs) n ≡ Some x)
  go true here later = (0, here)
  go false there later = let at = later there in (suc at.0, at.1)

-- ---- the reply

module _ (law : AdmitsAsJournal) (machines : ℕ → Machine) (c : Common) (log : LogPicture) (s : LogStands machines c log) (key : Key) where
  abbrev now : ℕ
  now = max 0 c.time

  abbrev late : Key
  late = until (suc now) key

  abbrev asking : Request
  asking = record { key = Some late; op = []; args = [] }

  -- what log and journal say of it
  says : by_table (Some late) (max 0 log.time) (length_of log) (against asking late (holder log.table late (max 0 log.time))) ≡ by_key c.journal now asking (Some late)
  says =
      let known : newest c ≡ log.newest.version.0 = sym (version_told machines c log s) in
      let told = sym (not_deposed (newest c) log.newest.version.0 (by_table (Some late) (max 0 log.time) (length_of log) (against asking late (holder log.table late (max 0 log.time)))) known)
      ∙ log_admits law machines c log s (newest c) 0 asking refl in
      cc

  to_come : nat_le (suc now) now ≡ false
  to_come = grind (arith, nat_tests)

  finds : by_found (length_of log) (against asking late (holder log.table late now)) ≡ against_held c.journal asking late (held c.journal late now)
  finds =
      let here = subst (λ (n : ℕ). by_table (Some late) (max 0 n) (length_of log) (against asking late (holder log.table late (max 0 n))) ≡ by_key c.journal now asking (Some late)) s.time says in
      sym (ap (λ (b : Bool). if b then Expired late.expiration else by_found (length_of log) (against asking late (holder log.table late now))) to_come)
      ∙ here
      ∙ ap (λ (b : Bool). if b then Expired late.expiration else against_held c.journal asking late (held c.journal late now)) to_come

  at_one_place : option_map (λ (r : Retained). r.position) (holder log.table key c.time) ≡ held c.journal key c.time
  at_one_place =
      let is : now ≡ c.time = omega arith in
      subst (λ (n : ℕ). option_map (λ (r : Retained). r.position) (holder log.table key n) ≡ held c.journal key n) is
      (ap (option_map (λ (r : Retained). r.position)) (sym (same_holder now (suc now) key log.table))
      ∙ sym (table_place (length_of log) asking late (holder log.table late now)) ∙ ap place_in finds ∙ journal_place c.journal asking late (held c.journal late now)
      ∙ same_held now (suc now) key c.journal)

  replied : (o : Option Retained) → holder log.table key c.time ≡ o → option_map (λ (r : Retained). r.position) o ≡ held c.journal key c.time →
      option_and_then (λ (r : Retained). r.reply) o ≡ held_reply (machines c.kind) c key
  replied None is at = ap (option_and_then (reply_once_run (machines c.kind) c.opening c.journal c.ran)) at
  replied (Some r) is at =
      let there = find_place (λ (e : Retained). is_held_by c.time key e.request.key) log.table r is in
      s.replies there.0 r there.1 ∙ ap (option_and_then (reply_once_run (machines c.kind) c.opening c.journal c.ran)) at

pub log_replies : AdmitsAsJournal → LogsReply
log_replies law machines c log s key =
    ap (λ (n : ℕ). option_and_then (λ (r : Retained). r.reply) (holder log.table key n)) s.time ∙ replied law machines c log s key (holder log.table key c.time) refl (at_one_place law machines c log s key)
