-- A log stays written down: by each of its calls, and by being opened again.
use Rattle.std.proofs.Common.{◌≡◌, ℕ, ◌+◌, ◌≤◌, Bool, true, false, true≢false, cond, eqb, List, [], ◌∷◌, ◌++◌, length, Option, Some, None, Result, Ok, Err, refl, sym, ap, subst, ◌∙◌, append_assoc, length-append, arith}
use Rattle.std.specs.Prelude.{◌&&◌, ◌||◌, is_some, not}
use Rattle.std.specs.Str.{bytes_eq}
use Rattle.std.proofs.lemmas.Bool.{eq-eqb}
use Rattle.std.proofs.lemmas.Slice.Eq.{bytes_eq-Decides}
use Rattle.ft_base.specs.declared.requests.Outcome.{Outcome}
use Rattle.ft_base.specs.declared.views.View.{View}
use Rattle.reply_table.specs.Entries.{unanswered, joined, with_reply}
use Rattle.reply_table.specs.declared.entries.Retained.{Retained}
use Rattle.log_records.specs.Records.{record_in, primary_sign, entry_record, view_record, checkpoint_record}
use Rattle.log_records.specs.Writable.{IsWritable}
use Rattle.log_records.specs.declared.records.Accepted.{Accepted}
use Rattle.log_records.specs.declared.records.Checkpoint.{Checkpoint}
use Rattle.log_records.specs.declared.records.Record.{Record}
use Rattle.log_records.specs.declared.records.Record.TheVariants as records
use Rattle.message_log.specs.Picture.{Picture, KeeperPicture}
use Rattle.message_log.specs.Opening.{Content, nothing_yet, repeats, may_follow, after_view, with_accepted, after_entry, filed, may_mark, after_checkpoint, after_record, after_piece, with_view_or, and_then, content_from, content_of, IsOpening}
use Rattle.message_log.specs.Calls.{IsTidied}
use Rattle.message_log.specs.Retaining.{AreRetained, recorded}
use Rattle.message_log.specs.Written.{RecordsAreRead, IsOnRecord, held_by, IsWrittenDown, IsOpenedAgain, IsNeverBad, KeepsReplies}
use Rattle.message_log.specs.declared.answers.ReopenFault.TheVariants.{Bad, NoMemory}
use Rattle.message_log.specs.declared.tidying.Tidied.{Tidied}
use Rattle.message_log.specs.declared.tidying.Tidied.TheVariants.{Cut, Uncut, Unwritten}
use Rattle.message_log.proofs.TableLaws.{retained_joined, retained_answered, filed_again, recorded_whole, recorded_joined, recorded_answered}

-- ---- one more record

ok_is : (c d : Content) → ◌≡◌ {A = Result Content ℕ} (Ok c) (Ok d) → c ≡ d
ok_is c d h = cc

err_ok : (n : ℕ) (d : Content) → ◌≡◌ {A = Result Content ℕ} (Err n) (Ok d) → ⊥
err_ok n d h = cc

some_is : {X : Type 0} (x y : X) → Some x ≡ Some y → x ≡ y
some_is x y h = cc

viewed_is : (n : ℕ) (c d : Content) (o : Option View) → with_view_or n c o ≡ Ok d → c ≡ d
viewed_is n c d None h = absurd (err_ok n d h)
viewed_is n c d (Some v) h = ok_is c d h

has_view : (n : ℕ) (c : Content) (o : Option View) → is_some o ≡ true → with_view_or n c o ≡ Ok c
has_view n c None h = absurd (true≢false (sym h))
has_view n c (Some v) h = refl

pushed : (n : ℕ) (c end d : Content) (pieces : List (List ℕ)) (piece : List ℕ) → content_from n c pieces ≡ Ok end → after_piece end (record_in piece) ≡ Some d
    → is_some d.newest ≡ true → content_from n c (pieces ++ piece ∷ []) ≡ Ok d
unfolding content_from
pushed n c end d [] piece h told viewed =
    let same = viewed_is n c end c.newest h in
    ap (λ (x : Content). and_then n (after_piece x (record_in piece)) (λ e. content_from (n + 1) e [])) same
    ∙ ap (λ (o : Option Content). and_then n o (λ e. content_from (n + 1) e [])) told
    ∙ has_view (n + 1) d d.newest viewed
pushed n c end d (p ∷ pieces) piece h told viewed =
    go (λ e k. pushed (n + 1) e end d pieces piece k told viewed) (after_piece c (record_in p)) h
  where
    go : ((e : Content) → content_from (n + 1) e pieces ≡ Ok end → content_from (n + 1) e (pieces ++ piece ∷ []) ≡ Ok d)
        → (o : Option Content) → and_then n o (λ e. content_from (n + 1) e pieces) ≡ Ok end
        → and_then n o (λ e. content_from (n + 1) e (pieces ++ piece ∷ [])) ≡ Ok d
    go rest None k = absurd (err_ok n end k)
    go rest (Some e) k = rest e k

-- the first record, and the second
one_record : (d : Content) (piece : List ℕ) → after_piece nothing_yet (record_in piece) ≡ Some d → is_some d.newest ≡ true → content_of (piece ∷ []) ≡ Ok d
unfolding content_from
one_record d piece told viewed =
    ap (λ (o : Option Content). and_then 0 o (λ e. content_from (0 + 1) e [])) told ∙ has_view (0 + 1) d d.newest viewed

two_records : (c d : Content) (first second : List ℕ) → after_piece nothing_yet (record_in first) ≡ Some c → after_piece c (record_in second) ≡ Some d
    → is_some d.newest ≡ true → content_of (first ∷ second ∷ []) ≡ Ok d
unfolding content_from
two_records c d first second a b viewed =
    ap (λ (o : Option Content). and_then 0 o (λ e. content_from (0 + 1) e (second ∷ []))) a
    ∙ ap (λ (o : Option Content). and_then (0 + 1) o (λ e. content_from (0 + 1 + 1) e [])) b
    ∙ has_view (0 + 1 + 1) d d.newest viewed

told_is : (c : Content) (piece : List ℕ) (told : Record) (d : Content) → record_in piece ≡ Some told → after_record c told ≡ Some d → after_piece c (record_in piece) ≡ Some d
told_is c piece told d read after = ap (after_piece c) read ∙ after

-- ---- what each record makes of the content

entered : (c : Content) (e : Accepted) → is_some c.newest ≡ true → e.position ≡ c.mark + length c.entries → after_entry c e ≡ Some (with_accepted c e)
entered c e there is =
    let place : eqb e.position (c.mark + length c.entries) ≡ true = eq-eqb e.position (c.mark + length c.entries) is in
    ap (λ (b : Bool). cond (b && eqb e.position (c.mark + length c.entries)) (Some (with_accepted c e)) None) there
    ∙ ap (λ (b : Bool). cond b (Some (with_accepted c e)) None) place

next_view : (c : Content) (last v : View) → c.newest ≡ Some last → v.version.0 ≡ last.version.0 + 1 → after_view c v ≡ Some (record c { newest = Some v; begun = true })
next_view c last v there is =
    let new : Option Content = Some (record c { newest = Some v; begun = true }) in
    ap (λ (o : Option View). cond (may_follow o v) new None) there
    ∙ ap (λ (b : Bool). cond (b || repeats last v) new None) (eq-eqb v.version.0 (last.version.0 + 1) is)

or_true : (a b : Bool) → b ≡ true → (a || b) ≡ true
or_true true b h = refl
or_true false b h = h

both : (a b : Bool) → a ≡ true → b ≡ true → (a && b) ≡ true
both true b h g = g
both false b h g = h

repeats_itself : (v : View) → repeats v v ≡ true
repeats_itself v =
    both (eqb v.version.0 v.version.0 && bytes_eq v.members v.members) (eqb (primary_sign v.primary) (primary_sign v.primary))
    (both (eqb v.version.0 v.version.0) (bytes_eq v.members v.members) (eq-eqb v.version.0 v.version.0 refl) ((bytes_eq-Decides v.members v.members).1 refl))
    (eq-eqb (primary_sign v.primary) (primary_sign v.primary) refl)

same_view : (c : Content) (v : View) → c.newest ≡ Some v → after_view c v ≡ Some (record c { newest = Some v; begun = true })
same_view c v there =
    let new : Option Content = Some (record c { newest = Some v; begun = true }) in
    ap (λ (o : Option View). cond (may_follow o v) new None) there
    ∙ ap (λ (b : Bool). cond b new None) (or_true (eqb v.version.0 (v.version.0 + 1)) (repeats v v) (repeats_itself v))

-- the content behind a checkpoint
abbrev cut_at : Option View → Checkpoint → Content
cut_at newest k = record {
  newest = newest;
  begun = true;
  mark = k.mark;
  entries = [];
  time = k.time.0;
  state = Some k.state;
  table = k.retained;
}

marked : (c : Content) (k : Checkpoint) → may_mark c k.mark ≡ true → AreRetained k.mark k.retained → after_checkpoint c k ≡ Some (cut_at c.newest k)
marked c k may h =
    ap (λ (b : Bool). cond b (Some (record (cut_at c.newest k) { table = filed [] k.retained })) None) may
    ∙ ap (λ (l : List Retained). Some (record (cut_at c.newest k) { table = l })) (filed_again k.mark k.retained h)

may_cut : (c : Content) (mark : ℕ) → is_some c.newest ≡ true → mark ≡ c.mark + length c.entries → may_mark c mark ≡ true
may_cut c mark there is =
    or_true (not c.begun) (is_some c.newest && eqb mark (c.mark + length c.entries))
    (both (is_some c.newest) (eqb mark (c.mark + length c.entries)) there (eq-eqb mark (c.mark + length c.entries) is))

-- ---- a log is written down: what is held is on record

abbrev on_record : Content → Content
on_record held = record held { table = recorded held.mark held.table }

pub fresh_on_record : RecordsAreRead → (view : View) → IsWritable (records.View view)
    → IsOnRecord (view_record view ∷ []) (record nothing_yet { newest = Some view; begun = true })
fresh_on_record read view h =
    let d : Content = record nothing_yet { newest = Some view; begun = true } in
    record {
      says = one_record d (view_record view) (told_is nothing_yet (view_record view) (records.View view) d (read (records.View view) h) refl) refl;
      retained = tt;
    }

-- an entry joins
pub entry_on_record : RecordsAreRead → (pieces : List (List ℕ)) (held : Content) (e : Accepted) → IsOnRecord pieces held → is_some held.newest ≡ true
    → e.position ≡ held.mark + length held.entries → IsWritable (records.Entry e) → IsOnRecord (pieces ++ entry_record e ∷ []) (with_accepted held e)
entry_on_record read pieces held e w there is h =
    let row = unanswered e.position e.version e.at e.request in
    let told = records.Entry e in
    let tables : joined (recorded held.mark held.table) row e.request.key ≡ recorded held.mark (joined held.table row e.request.key) =
    recorded_joined held.mark held.table row e.request.key refl in
    let after = told_is (on_record held) (entry_record e) told (with_accepted (on_record held) e) (read told h) (entered (on_record held) e there is) in
    let count : held.mark + length held.entries + 1 ≡ held.mark + length (held.entries ++ record { at = e.at.0; request = e.request } ∷ []) =
    omega (arith, length-append held.entries (record { at = e.at.0; request = e.request } ∷ [])) in
    record {
      says =
          pushed 0 nothing_yet (on_record held) (with_accepted (on_record held) e) pieces (entry_record e) w.says after there
          ∙ ap (λ (t : List Retained). Ok (record (with_accepted held e) { table = t })) tables;
      retained =
          subst (λ (n : ℕ). AreRetained n (joined held.table row e.request.key)) count
          (retained_joined (held.mark + length held.entries) held.table row w.retained is);
    }

-- a view is written
pub view_on_record : RecordsAreRead → (pieces : List (List ℕ)) (held : Content) (last view : View) → IsOnRecord pieces held → held.newest ≡ Some last
    → view.version.0 ≡ last.version.0 + 1 → IsWritable (records.View view) → IsOnRecord (pieces ++ view_record view ∷ []) (record held { newest = Some view; begun = true })
view_on_record read pieces held last view w there next h =
    let d : Content = record (on_record held) { newest = Some view; begun = true } in
    let after = told_is (on_record held) (view_record view) (records.View view) d (read (records.View view) h) (next_view (on_record held) last view there next) in
    record { says = pushed 0 nothing_yet (on_record held) d pieces (view_record view) w.says after refl; retained = w.retained }

-- ---- a checkpoint, in its three ways

module _ (read : RecordsAreRead) (old : KeeperPicture) (held : Content) (newest : View) (k : Checkpoint) (w : IsOnRecord old.records held) (there : held.newest ≡ Some newest)
    (is : k.mark ≡ held.mark + length held.entries) (left : AreRetained k.mark k.retained) (h : IsWritable (records.Checkpoint k)) (g : IsWritable (records.View newest)) where
  abbrev written : List ℕ
  written = checkpoint_record k

  abbrev viewed : List ℕ
  viewed = view_record newest

  abbrev cut : Content
  cut = cut_at (Some newest) k

  view_again : (c : Content) → c.newest ≡ Some newest → after_piece c (record_in viewed) ≡ Some (record c { newest = Some newest; begun = true })
  view_again c at = told_is c viewed (records.View newest) (record c { newest = Some newest; begun = true }) (read (records.View newest) g) (same_view c newest at)

  -- behind all other records
  behind : after_piece (on_record held) (record_in written) ≡ Some cut
  behind =
      told_is (on_record held) written (records.Checkpoint k) cut (read (records.Checkpoint k) h)
      (marked (on_record held) k (may_cut (on_record held) k.mark (ap is_some there) is) left ∙ ap (λ (o : Option View). Some (cut_at o k)) there)

  -- in front of them
  first : after_piece nothing_yet (record_in written) ≡ Some (cut_at None k)
  first = told_is nothing_yet written (records.Checkpoint k) (cut_at None k) (read (records.Checkpoint k) h) (marked nothing_yet k refl left)

  view_first : after_piece (cut_at None k) (record_in viewed) ≡ Some cut
  view_first = told_is (cut_at None k) viewed (records.View newest) cut (read (records.View newest) g) refl

  says : (how : Tidied) (plan : Option (List Bool)) (new : KeeperPicture) → IsTidied how (record old { plan = plan }) written viewed new → content_of new.records ≡ Ok cut
  says Cut plan new a = ap content_of a.2 ∙ two_records (cut_at None k) cut written viewed first view_first refl
  says Uncut plan new a =
      ap content_of (a.2 ∙ sym (append_assoc old.records (written ∷ []) (viewed ∷ [])))
      ∙ pushed 0 nothing_yet cut cut (old.records ++ written ∷ []) viewed (pushed 0 nothing_yet (on_record held) cut old.records written w.says behind refl) (view_again cut refl) refl
  says Unwritten plan new a = ap content_of a.1 ∙ pushed 0 nothing_yet (on_record held) cut old.records written w.says behind refl

  pub cut_on_record : (how : Tidied) (plan : Option (List Bool)) (new : KeeperPicture) → IsTidied how (record old { plan = plan }) written viewed new → IsOnRecord new.records cut
  cut_on_record how plan new a = record {
    says = says how plan new a ∙ ap (λ (t : List Retained). Ok (record cut { table = t })) (recorded_whole k.mark k.retained left);
    retained = subst (λ (n : ℕ). AreRetained n k.retained) (omega arith) left;
  }

-- ---- a reply

pub reply_on_record : (pieces : List (List ℕ)) (held : Content) (position : ℕ) (outcome : Outcome) → held.mark ≤ position → IsOnRecord pieces held
    → IsOnRecord pieces (record held { table = with_reply held.table position outcome })
reply_on_record pieces held position outcome le w = record {
  says = w.says ∙ ap (λ (t : List Retained). Ok (record held { table = t })) (sym (recorded_answered held.mark position outcome held.table le));
  retained = retained_answered (held.mark + length held.entries) position outcome held.table w.retained;
}

-- ---- opened again

-- the records of a log that is opened are its own
pub opened_on_record : (pieces : List (List ℕ)) (held : Content) (entries : ℕ) → content_of pieces ≡ Ok held → entries ≡ length held.entries
    → IsOpening held.newest held.begun held.mark entries held.table → IsOnRecord pieces held
opened_on_record pieces held entries says count o = record {
  says = says ∙ ap (λ (t : List Retained). Ok (record held { table = t })) o.whole;
  retained = subst (λ (n : ℕ). AreRetained (held.mark + n) held.table) count o.retained;
}

pub resumed : (log : Picture) → IsWrittenDown log → IsOpenedAgain log
resumed log w again plan faults r =
    let same : r.content ≡ on_record (held_by log) = ok_is r.content (on_record (held_by log)) (sym r.says ∙ w.says) in
    record {
      newest = some_is again.newest log.newest (sym r.view ∙ ap (λ (c : Content). c.newest) same);
      mark = ap (λ (p : Picture). p.mark) r.is ∙ ap (λ (c : Content). c.mark) same;
      entries = ap (λ (p : Picture). p.entries) r.is ∙ ap (λ (c : Content). c.entries) same;
      time = ap (λ (p : Picture). p.time) r.is ∙ ap (λ (c : Content). c.time) same;
      state = ap (λ (p : Picture). p.state) r.is ∙ ap (λ (c : Content). c.state) same;
      table = ap (λ (p : Picture). p.table) r.is ∙ ap (λ (c : Content). c.table) same;
      records = ap (λ (p : Picture). p.records) r.is;
    }

pub never_bad : (log : Picture) → IsWrittenDown log → IsNeverBad log
never_bad log w (Bad number) bad = absurd (err_ok number (on_record (held_by log)) (sym bad ∙ w.says))
never_bad log w NoMemory bad = refl

pub keeps_replies : (log : Picture) → IsWrittenDown log → KeepsReplies log
keeps_replies log w none =
    let end : log.mark + length log.entries ≡ log.mark = omega (arith, ap length none) in
    recorded_whole log.mark log.table (subst (λ (n : ℕ). AreRetained n log.table) end w.retained)
