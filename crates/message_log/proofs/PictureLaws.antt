-- What is true of every log stays true.
use Rattle.std.proofs.Common.{◌≡◌, ◌⊎◌, inl, inr, ⊎_elim, ℕ, zero, suc, ◌+◌, ◌<◌, ◌≤◌, Bool, true, false, cond, eqb, max, List, [], ◌∷◌, ◌++◌, length, Option, Some, None, refl, sym, ap, subst, ◌∙◌, append_assoc, length-append, ltb-false, arith}
use Rattle.std.specs.Prelude.{drop, slice_get, nat_le, nat_lt}
use Rattle.std.specs.List.{AllByRecursion, find}
use Rattle.std.proofs.lemmas.Bool.{eq-eqb, ne_eqb}
use Rattle.std.proofs.lemmas.Bool.Decides.{nat_tests}
use Rattle.ft_base.specs.Admissions.{by_room}
use Rattle.ft_base.specs.declared.admissions.Admission.{Admission}
use Rattle.ft_base.specs.declared.admissions.Admission.TheVariants.{Expired, Full, New}
use Rattle.ft_base.specs.declared.limits.TheConstants.{VIEW_LIMIT, JOURNAL_LIMIT}
use Rattle.ft_base.specs.declared.requests.Key.{Key}
use Rattle.ft_base.specs.declared.requests.Outcome.{Outcome}
use Rattle.ft_base.specs.declared.requests.Request.{Request}
use Rattle.ft_base.specs.declared.views.View.{View}
use Rattle.ft_base.specs.Journal.{is_unexpired}
use Rattle.reply_table.specs.Entries.{found, joined, unexpired, with_reply}
use Rattle.reply_table.specs.declared.entries.Found.{Found}
use Rattle.reply_table.specs.declared.entries.Found.TheVariants as founds
use Rattle.reply_table.specs.declared.entries.Retained.{Retained}
use Rattle.log_records.specs.Records.{IsVersion, IsLogged, AreOfVersions}
use Rattle.message_log.specs.Picture.{Picture, Reserved, length_of, AreNumbered, IsSound}
use Rattle.message_log.specs.Calls.{reserved_of, IsReady}
use Rattle.message_log.specs.Opening.{IsOpening}
use Rattle.message_log.specs.Admission.{by_found, by_table, unless_deposed, admitted}
use Rattle.message_log.specs.Retaining.{AreRetained}
use Rattle.message_log.specs.declared.answers.Admit.TheVariants as admits
use Rattle.message_log.proofs.TableLaws.{all_filter, all_joined, all_answered, retained_joined, recorded_joined}

-- ---- two equations at once

pub subst2 : {A B : Type 0} (P : A → B → Type 0) {x y : A} {u v : B} → x ≡ y → u ≡ v → P x u → P y v
subst2 P {x} {y} {u} {v} e d h = subst (λ b. P y b) d (subst (λ a. P a u) e h)

-- ---- records

pub two_more : (xs : List (List ℕ)) (a b : List ℕ) → (xs ++ a ∷ []) ++ b ∷ [] ≡ xs ++ a ∷ b ∷ []
two_more xs a b = append_assoc xs (a ∷ []) (b ∷ [])

pub cut_before : (xs : List (List ℕ)) (a b : List ℕ) → drop (length xs) ((xs ++ a ∷ []) ++ b ∷ []) ≡ a ∷ b ∷ []
cut_before [] a b = refl
cut_before (x ∷ xs) a b = cut_before xs a b

-- ---- a new request has room, and its writer knows the newest view

admission_is : (x y : Admission) → admits.Admission x ≡ admits.Admission y → x ≡ y
admission_is x y h = cc

known : (newest version : ℕ) (x y : Admission) → unless_deposed newest version x ≡ admits.Admission y → (newest ≤ version) × (x ≡ y)
known newest version x y h = go (nat_lt version newest) refl h
  where
    go : (b : Bool) → nat_lt version newest ≡ b → cond b (admits.Deposed (record { 0 = newest })) (admits.Admission x) ≡ admits.Admission y → (newest ≤ version) × (x ≡ y)
    go true t k = absurd cc
    go false t k = (ltb-false version newest t, admission_is x y k)

pub not_deposed : (newest version : ℕ) (x y : Admission) → unless_deposed newest version x ≡ admits.Admission y → x ≡ y
not_deposed newest version x y h = (known newest version x y h).1

room_of : (count : ℕ) → by_room count ≡ New → count < JOURNAL_LIMIT
room_of count h = go (nat_le JOURNAL_LIMIT count) refl h
  where
    go : (b : Bool) → nat_le JOURNAL_LIMIT count ≡ b → cond b Full New ≡ New → count < JOURNAL_LIMIT
    go true t k = absurd cc
    go false t k = grind (arith, nat_tests, t)

found_room : (count : ℕ) (what : Found) → by_found count what ≡ New → count < JOURNAL_LIMIT
found_room count founds.Fresh h = room_of count h
found_room count (founds.Same i) h = absurd cc
found_room count (founds.Other i) h = absurd cc

table_room : (key : Option Key) (now count : ℕ) (what : Found) → by_table key now count what ≡ New → count < JOURNAL_LIMIT
table_room None now count what h = room_of count h
table_room (Some key) now count what h = go (nat_le key.expiration.0 now) h
  where
    go : (b : Bool) → cond b (Expired key.expiration) (by_found count what) ≡ New → count < JOURNAL_LIMIT
    go true k = absurd cc
    go false k = found_room count what k

pub new_has_room : (log : Picture) (version clock : ℕ) (request : Request) → admitted log version clock request ≡ admits.Admission New
    → (log.newest.version.0 ≤ version) × (length_of log < JOURNAL_LIMIT)
new_has_room log version clock request h =
    let now = max clock log.time in
    let what = found log.table request request.key now in
    let new = known log.newest.version.0 version (by_table request.key now (length_of log) what) New h in
    (new.0, table_room request.key now (length_of log) what new.1)

-- ---- positions

pub below : (n m : ℕ) (table : List Retained) → n ≤ m → AllByRecursion (λ (e : Retained). e.position < n) table → AllByRecursion (λ (e : Retained). e.position < m) table
below n m [] le h = tt
below n m (e ∷ table) le h = (omega (arith, le, h.0), below n m table le h.1)

pub below_joined : (n : ℕ) (table : List Retained) (e : Retained) (key : Option Key) → AllByRecursion (λ (d : Retained). d.position < n) table → e.position < n
    → AllByRecursion (λ (d : Retained). d.position < n) (joined table e key)
below_joined n table e key h p = all_joined (λ (d : Retained). d.position < n) table e key h p

pub below_answered : (n position : ℕ) (outcome : Outcome) (table : List Retained) → AllByRecursion (λ (d : Retained). d.position < n) table
    → AllByRecursion (λ (d : Retained). d.position < n) (with_reply table position outcome)
below_answered n position outcome table h = all_answered (λ (d : Retained). d.position < n) position outcome (λ d p. p) table h

-- ---- the calls

pub sound_appended : (newest : View) (earlier : List View) (mark entries next : ℕ) (table after : List Retained) (e : Retained) (key : Option Key)
    → IsSound newest earlier mark entries table → mark + entries < JOURNAL_LIMIT → e.position ≡ mark + entries → IsVersion e.version → next ≡ entries + 1 → after ≡ joined table e key
    → IsSound newest earlier mark next after
sound_appended newest earlier mark entries next table after e key s room is its one put = record {
  numbered = s.numbered;
  first = s.first;
  last = s.last;
  fits = omega (arith, room, one);
  positions = subst (AllByRecursion (λ (d : Retained). d.position < mark + next)) (sym put)
      (below_joined (mark + next) table e key (below (mark + entries) (mark + next) table (omega (arith, one)) s.positions) (omega (arith, is, one)));
  logged = s.logged;
  versions = subst AreOfVersions (sym put) (all_joined (λ (d : Retained). IsVersion d.version) table e key s.versions its);
}

numbered_viewed : (earlier : List View) (newest : View) (next : ℕ) → AreNumbered earlier newest.version.0 → next ≡ newest.version.0 + 1
    → AreNumbered (earlier ++ newest ∷ []) next
numbered_viewed [] newest next h is = (sym is, tt)
numbered_viewed (v ∷ earlier) newest next h is =
    (omega (arith, h.0, is, length-append earlier (newest ∷ [])), numbered_viewed earlier newest next h.1 is)

pub sound_viewed : (newest next : View) (earlier : List View) (mark entries : ℕ) (table : List Retained) → IsSound newest earlier mark entries table
    → next.version.0 ≡ newest.version.0 + 1 → newest.version.0 < VIEW_LIMIT → IsLogged next → IsSound next (earlier ++ newest ∷ []) mark entries table
sound_viewed newest next earlier mark entries table s is room logged = record {
  numbered = numbered_viewed earlier newest next.version.0 s.numbered is;
  first = omega (arith, s.first, is, length-append earlier (newest ∷ []));
  last = omega (arith, room, is);
  fits = s.fits;
  positions = s.positions;
  logged = logged;
  versions = s.versions;
}

pub sound_checkpointed : (newest : View) (earlier : List View) (mark entries time end none : ℕ) (table : List Retained) → IsSound newest earlier mark entries table
    → end ≡ mark + entries → none ≡ 0 → IsSound newest earlier end none (unexpired time table)
sound_checkpointed newest earlier mark entries time end none table s is empty = record {
  numbered = s.numbered;
  first = s.first;
  last = s.last;
  fits = omega (arith, s.fits, is, empty);
  positions =
      all_filter (λ (d : Retained). d.position < end + none) (λ e. is_unexpired time e.request.key) table (below (mark + entries) (end + none) table (omega (arith, is, empty)) s.positions);
  logged = s.logged;
  versions = all_filter (λ (d : Retained). IsVersion d.version) (λ e. is_unexpired time e.request.key) table s.versions;
}

pub sound_answered : (newest : View) (earlier : List View) (mark entries position : ℕ) (outcome : Outcome) (table : List Retained) → IsSound newest earlier mark entries table
    → IsSound newest earlier mark entries (with_reply table position outcome)
sound_answered newest earlier mark entries position outcome table s = record {
  numbered = s.numbered;
  first = s.first;
  last = s.last;
  fits = s.fits;
  positions = below_answered (mark + entries) position outcome table s.positions;
  logged = s.logged;
  versions = all_answered (λ (d : Retained). IsVersion d.version) position outcome (λ d p. p) table s.versions;
}

-- ---- what was reserved

pub some_is : {X : Type 0} (x y : X) → Some x ≡ Some y → x ≡ y
some_is x y h = cc

pub ready_none : (reserved : Option (List ℕ)) (retained : Option Request) (spare entries entries_room : ℕ) (table_room : Bool) → reserved ≡ None
    → IsReady reserved retained spare entries entries_room table_room
ready_none reserved retained spare entries entries_room table_room is =
    subst (λ (o : Option (List ℕ)). IsReady o retained spare entries entries_room table_room) (sym is) tt

-- it is what the caller says
pub taken_is : (reserved : Option (List ℕ)) (retained : Option Request) (entry : List ℕ) (wanted : Reserved) → reserved ≡ Some entry → reserved_of reserved retained ≡ Some wanted
    → record { entry = entry; retained = retained } ≡ wanted
taken_is reserved retained entry wanted is h =
    some_is (record { entry = entry; retained = retained }) wanted (sym (ap (λ (o : Option (List ℕ)). reserved_of o retained) is) ∙ h)

-- ---- a log that is read

pub opening_entered : (newest : Option View) (begun : Bool) (mark entries : ℕ) (table : List Retained) (e : Retained)
    → IsOpening newest begun mark entries table → e.position ≡ mark + entries → e.position < JOURNAL_LIMIT → IsVersion e.version → e.reply ≡ None
    → IsOpening newest begun mark (entries + 1) (joined table e e.request.key)
opening_entered newest begun mark entries table e s is room its none = record {
  view = s.view;
  started = s.started;
  fits = omega (arith, room, is);
  positions = below_joined (mark + (entries + 1)) table e e.request.key (below (mark + entries) (mark + (entries + 1)) table (omega arith) s.positions) (omega (arith, is));
  versions = all_joined (λ (d : Retained). IsVersion d.version) table e e.request.key s.versions its;
  retained =
      subst (λ (n : ℕ). AreRetained n (joined table e e.request.key)) (omega arith) (retained_joined (mark + entries) table e s.retained is);
  whole = ap (λ (t : List Retained). joined t e e.request.key) s.whole ∙ recorded_joined mark table e e.request.key none;
}

-- ---- a log's newest view

pub newest_version : (newest : View) (earlier : List View) (mark entries : ℕ) (table : List Retained) → IsSound newest earlier mark entries table → IsVersion newest.version
newest_version newest earlier mark entries table s = (omega (arith, s.first), s.last)

-- ---- the view of a version

module _ (newest : View) (n : ℕ) where
  abbrev has : View → Bool
  has v = eqb v.version.0 n

  passed_over : (v : View) (views : List View) → (v.version.0 ≡ n → ⊥) → find has ((v ∷ views) ++ newest ∷ []) ≡ find has (views ++ newest ∷ [])
  passed_over v views other = ap (λ b. cond b (Some v) (find has (views ++ newest ∷ []))) (ne_eqb v.version.0 n other)

  pub at_newest : (views : List View) → AreNumbered views newest.version.0 → n ≡ newest.version.0 → find has (views ++ newest ∷ []) ≡ Some newest
  at_newest [] h is = ap (λ b. cond b (Some newest) None) (eq-eqb newest.version.0 n (sym is))
  at_newest (v ∷ views) h is = passed_over v views (λ e. omega (arith, h.0, is, e)) ∙ at_newest views h.1 is

  pub at_none : (views : List View) → AreNumbered views newest.version.0 → (newest.version.0 < n) ⊎ (n + length views < newest.version.0)
      → find has (views ++ newest ∷ []) ≡ None
  at_none [] h out = ap (λ b. cond b (Some newest) None) (ne_eqb newest.version.0 n (λ e. ⊎_elim (λ later. omega (arith, later, e)) (λ before. omega (arith, before, e)) out))
  at_none (v ∷ views) h (inl later) = passed_over v views (λ e. omega (arith, h.0, later, e)) ∙ at_none views h.1 (inl later)
  at_none (v ∷ views) h (inr before) = passed_over v views (λ e. omega (arith, h.0, before, e)) ∙ at_none views h.1 (inr (omega (arith, before)))

  pub at_place : (views : List View) (i : ℕ) → AreNumbered views newest.version.0 → n < newest.version.0 → n + length views ≡ newest.version.0 + i
      → find has (views ++ newest ∷ []) ≡ slice_get views i
  at_place [] i h before is = absurd (omega (arith, before, is))
  at_place (v ∷ views) zero h before is = ap (λ b. cond b (Some v) (find has (views ++ newest ∷ []))) (eq-eqb v.version.0 n (omega (arith, h.0, is)))
  at_place (v ∷ views) (suc i) h before is =
      passed_over v views (λ e. omega (arith, h.0, is, e)) ∙ at_place views i h.1 before (omega (arith, is))
