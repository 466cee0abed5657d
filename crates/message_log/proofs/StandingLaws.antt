-- A log that stands for a journal says what the whole journal says, and its calls keep it standing.
use Rattle.std.proofs.Common.{◌≡◌, ℕ, ◌+◌, ◌<◌, ◌≤◌, Bool, true, false, cond, true≢false, ltb, max, List, length, Option, Some, None, refl, sym, ap, ◌∙◌, arith, length-drop}
use Rattle.std.specs.Prelude.{◌&&◌, ◌-◌, drop, slice_get, nat_le, nat_lt, option_map}
use Rattle.std.specs.Ordering.{int_eq}
use Rattle.std.specs.Str.{bytes_eq}
use Rattle.std.proofs.lemmas.Bool.{ltb-true, ltb-false}
use Rattle.std.proofs.lemmas.Bool.Decides.{Decides-int_eq}
use Rattle.std.proofs.lemmas.Slice.Eq.{bytes_eq-Decides}
use Rattle.ft_base.specs.Admissions.{says_same, by_room, against_entry, against_held, by_key, admission}
use Rattle.ft_base.specs.declared.admissions.Admission.{Admission}
use Rattle.ft_base.specs.declared.admissions.Admission.TheVariants.{Expired, Same, Other}
use Rattle.ft_base.specs.Journal.{Entry, held, is_held, is_held_by, IsJournal, IsOneCall}
use Rattle.ft_base.specs.declared.requests.Key.{Key}
use Rattle.ft_base.specs.declared.requests.Request.{Request}
use Rattle.reply_table.specs.Entries.{holder, against, found}
use Rattle.reply_table.specs.declared.entries.Found.TheVariants as founds
use Rattle.reply_table.specs.declared.entries.Retained.{Retained}
use Rattle.message_log.specs.Picture.{Picture, length_of, request_at}
use Rattle.message_log.specs.Admission.{by_found, by_table, unless_deposed, admitted_by, admitted}
use Rattle.message_log.specs.Standing.{Retains, StandsFor}
use Rattle.message_log.proofs.Places.{Passes, last_passes, passes_nowhere, found_passes, found_nowhere, drop_get}

-- the entry that a retained one is
abbrev pub entry_of : Retained → Entry
entry_of r = record { at = r.at.0; request = r.request }

-- ---- what it is to hold a retention id

record Holds (now : ℕ) (key : Key) (key-there : Option Key) : Type 0 where
  other : Key
  is : key-there ≡ Some other
  client : key.client ≡ other.client
  retention : key.retention.0 ≡ other.retention.0
  alive : now < other.expiration.0

both_true : (a b : Bool) → (a && b) ≡ true → (a ≡ true) × (b ≡ true)
both_true true b h = (refl, h)
both_true false b h = absurd (true≢false (sym h))

holds : (now : ℕ) (key : Key) (o : Option Key) → is_held_by now key o ≡ true → Holds now key o
holds now key None h = absurd (true≢false (sym h))
holds now key (Some other) h =
    let parts = both_true (bytes_eq key.client other.client && int_eq key.retention.0 other.retention.0) (nat_lt now other.expiration.0) h in
    let same = both_true (bytes_eq key.client other.client) (int_eq key.retention.0 other.retention.0) parts.0 in
    record {
      other = other;
      is = refl;
      client = (bytes_eq-Decides key.client other.client).0 same.0;
      retention = (Decides-int_eq key.retention.0 other.retention.0).0 same.1;
      alive = ltb-true now other.expiration.0 parts.1;
    }

-- a later one of the same call comes after the earlier one's expiration
not_both : (journal : List Entry) (time now : ℕ) (key : Key) (i j : ℕ) (early late : Entry) → IsJournal time journal → time ≤ now → i < j
    → slice_get journal i ≡ Some early → slice_get journal j ≡ Some late → Holds now key early.request.key → Holds now key late.request.key → ⊥
not_both journal time now key i j early late is le lt gi gj h g =
    let one : IsOneCall h.other g.other = record {
      client = sym h.client ∙ g.client;
      retention = ap (λ z. record { 0 = z }) (sym h.retention ∙ g.retention);
    } in
    let gone = is.once.apart i j early late h.other g.other lt gi gj h.is g.is one in
    let then = is.before j late gj in
    absurd (omega (arith, gone, then, le, h.alive))

one_holder : (journal : List Entry) (time now : ℕ) (key : Key) (i j : ℕ) (d e : Entry) → IsJournal time journal → time ≤ now
    → slice_get journal i ≡ Some d → slice_get journal j ≡ Some e → Holds now key d.request.key → Holds now key e.request.key → i ≡ j
one_holder journal time now key i j d e is le gi gj h g = go (ltb i j) refl (ltb j i) refl
  where
    go : (a : Bool) → ltb i j ≡ a → (b : Bool) → ltb j i ≡ b → i ≡ j
    go true s b t = absurd (not_both journal time now key i j d e is le (ltb-true i j s) gi gj h g)
    go false s true t = absurd (not_both journal time now key j i e d is le (ltb-true j i t) gj gi g h)
    go false s false t = omega (arith, ltb-false i j s, ltb-false j i t)

-- ---- the table finds what the journal holds

module _ (journal : List Entry) (time now : ℕ) (table : List Retained) (request : Request) (key : Key) (is : IsJournal time journal) (retains : Retains journal time table) (le : time ≤ now) where
  abbrev at_row : Retained → Bool
  at_row r = is_held_by now key r.request.key

  -- an entry that is held is retained
  row_of_held : (i : ℕ) → Passes (is_held now key) journal i → (n : ℕ) × (r : Retained) × (slice_get table n ≡ Some r) × (r.position ≡ i) × (is_held_by now key r.request.key ≡ true)
  row_of_held i p =
      let h = holds now key p.value.request.key p.true-there in
      let alive = h.alive in
      let there = retains.kept i p.value h.other p.at h.is (omega (arith, le, alive)) in
      let own : slice_get journal there.entry.position ≡ Some (entry_of there.entry) = retains.are there.index there.entry there.at in
      let same : Some (entry_of there.entry) ≡ Some p.value = sym own ∙ ap (λ (k : ℕ). slice_get journal k) there.is ∙ p.at in
      let entry : entry_of there.entry ≡ p.value = cc in
      (there.index, there.entry, there.at, there.is, ap (λ (e : Entry). is_held_by now key e.request.key) entry ∙ p.true-there)

  found_says : (count k : ℕ) (b : Bool) → by_found count (cond b (founds.Same k) (founds.Other k)) ≡ cond b (Same k) (Other k)
  found_says count k true = refl
  found_says count k false = refl

  pub held_says : (count : ℕ) → count ≡ length journal → by_found count (against request key (holder table key now)) ≡ against_held journal request key (held journal key now)
  held_says count long = go (held journal key now) refl (holder table key now) refl
    where
      go : (o : Option ℕ) → held journal key now ≡ o → (r : Option Retained) → holder table key now ≡ r → by_found count (against request key r) ≡ against_held journal request key o
      go None a None b = ap by_room long
      go None a (Some r) b =
          let p = found_passes (λ (e : Retained). is_held_by now key e.request.key) table r b in
          absurd (true≢false (sym p.2 ∙ passes_nowhere (is_held now key) journal r.position (entry_of r) a (retains.are p.0 r p.1)))
      go (Some i) a None b =
          let w = row_of_held i (last_passes (is_held now key) journal i a) in
          absurd (true≢false (sym w.4 ∙ found_nowhere (λ (e : Retained). is_held_by now key e.request.key) table w.0 w.1 b w.2))
      go (Some i) a (Some r) b =
          let p = found_passes (λ (e : Retained). is_held_by now key e.request.key) table r b in
          let q = last_passes (is_held now key) journal i a in
          let own = retains.are p.0 r p.1 in
          let same : r.position ≡ i =
          one_holder journal time now key r.position i (entry_of r) q.value is le own q.at (holds now key r.request.key p.2) (holds now key q.value.request.key q.true-there)
          in
          let there : slice_get journal i ≡ Some (entry_of r) = ap (λ (k : ℕ). slice_get journal k) (sym same) ∙ own in
          found_says count r.position (says_same request key r.request)
          ∙ ap (λ (k : ℕ). cond (says_same request key r.request) (Same k) (Other k)) same
          ∙ sym (ap (λ (o : Option Entry). against_entry i request key o) there)

pub table_says : (journal : List Entry) (time now : ℕ) (table : List Retained) (request : Request) (key : Option Key) (count : ℕ) → IsJournal time journal → Retains journal time table → time ≤ now
    → count ≡ length journal → by_table key now count (found table request key now) ≡ by_key journal now request key
table_says journal time now table request None count is retains le long = ap by_room long
table_says journal time now table request (Some key) count is retains le long =
    ap (λ (a : Admission). cond (nat_le key.expiration.0 now) (Expired key.expiration) a) (held_says journal time now table request key is retains le count long)

length_drop : (n : ℕ) (xs : List Entry) → n ≤ length xs → n + length (drop n xs) ≡ length xs
length_drop n xs le = grind (arith, length-drop, le)

pub length_stands : (journal : List Entry) (log : Picture) → StandsFor journal log → length_of log ≡ length journal
length_stands journal log s = ap (λ (es : List Entry). log.mark + length es) s.entries ∙ length_drop log.mark journal s.marked

pub upper : (a b : ℕ) → b ≤ max a b
upper a b = omega arith

pub log_says : (journal : List Entry) (log : Picture) → StandsFor journal log → (clock : ℕ) (request : Request)
    → by_table request.key (max clock log.time) (length_of log) (found log.table request request.key (max clock log.time)) ≡ admission journal (max clock log.time) request
log_says journal log s clock request =
    table_says journal log.time (max clock log.time) log.table request request.key (length_of log) s.is_journal s.table (upper clock log.time) (length_stands journal log s)

pub admits_as_journal : (journal : List Entry) (log : Picture) → StandsFor journal log → (version clock : ℕ) (request : Request)
    → admitted log version clock request ≡ admitted_by log.newest.version.0 journal log.time version clock request
admits_as_journal journal log s version clock request = ap (unless_deposed log.newest.version.0 version) (log_says journal log s clock request)

pub lends_journal : (journal : List Entry) (log : Picture) → StandsFor journal log → (position : ℕ) → log.mark ≤ position
    → request_at log position ≡ option_map (λ (e : Entry). e.request) (slice_get journal position)
lends_journal journal log s position le = go (nat_lt position log.mark) refl
  where
    go : (b : Bool) → nat_lt position log.mark ≡ b
        → cond b None (option_map (λ (e : Entry). e.request) (slice_get log.entries (position - log.mark))) ≡ option_map (λ (e : Entry). e.request) (slice_get journal position)
    go true t = let less = ltb-true position log.mark t in absurd (omega (arith, less, le))
    go false t =
        ap (λ (o : Option Entry). option_map (λ (e : Entry). e.request) o)
        (ap (λ (es : List Entry). slice_get es (position - log.mark)) s.entries ∙ drop_get log.mark journal (position - log.mark) position (omega (arith, le)))
