-- A piece is read as the record that it spells, and as no other.
use Rattle.std.proofs.Common.{◌≡◌, ℕ, zero, suc, ◌+◌, Bool, true, false, cond, eqb, List, [], ◌∷◌, ◌++◌, length, Option, Some, None, Result, Ok, Err, IfOk, refl, sym, ap, subst, ◌∙◌, append-nil}
use Rattle.std.specs.Prelude.{nat_lt}
use Rattle.std.proofs.lemmas.Bool.{eqb-true, eq-eqb, ltb-true, lt-ltb}
use Rattle.cdr_codec.specs.declared.faults.CdrWhy.{CdrWhy}
use Rattle.cdr_codec.specs.declared.faults.CdrWhy.TheVariants.{Short}
use Rattle.cdr_codec.specs.declared.orders.Order.TheVariants.{Big}
use Rattle.cdr_codec.specs.Reading.{Reader, reader_at, Fault, fault_at, Read, start, ◌>>=◌}
use Rattle.cdr_codec.specs.Encapsulations.{opened}
use Rattle.cdr_codec.specs.Formats.{Format, number, judge}
use Rattle.cdr_codec.specs.Laws.{IsCodec}
use Rattle.cdr_codec.proofs.Steps.{with_reader, bind_ok, bind_goes, ok_is, err_ok}
use Rattle.ft_base.specs.declared.memory.NoMemory.{NoMemory}
use Rattle.ft_base.specs.declared.views.View.{View}
use Rattle.log_records.specs.Records.{out_of_range, is_form, form_octet, formed, entry, view, checkpoint, ended_by, ended, in_big, record_by, record_read, record_in}
use Rattle.log_records.specs.Spelling.{SpellsForm, SpellsRecord, IsSpelledAs}
use Rattle.log_records.specs.declared.records.Accepted.{Accepted}
use Rattle.log_records.specs.declared.records.Checkpoint.{Checkpoint}
use Rattle.log_records.specs.declared.records.Record.{Record}
use Rattle.log_records.specs.declared.records.Record.TheVariants as records
use Rattle.log_records.proofs.Codecs.{entry_codec, view_codec, checkpoint_codec, formed_codec}

some_is : {X : Type 0} (x y : X) → Some x ≡ Some y → x ≡ y
some_is x y h = cc

-- ---- the octet of a form, and the fields behind it

record Opens {X : Type 0} (form : ℕ) (f : Format CdrWhy X) (r : Reader) (y : X × Reader) : Type 0 where
  pub octet : ℕ × Reader
  pub first : (number 1).read r ≡ Ok octet
  pub form_is : octet.0 ≡ form
  pub others : f.read octet.1 ≡ Ok y

module _ {X : Type 0} (form : ℕ) (f : Format CdrWhy X) where
  abbrev judging : Reader → ℕ × Reader → Read CdrWhy (Unit {0})
  judging r n = judge (is_form form n.0) n.1 (fault_at out_of_range (start 1 r.place))

  abbrev whole_of : X × Reader → Read CdrWhy X
  whole_of b = Ok (b.0, b.1)

  abbrev reading : Unit {0} × Reader → Read CdrWhy X
  reading a = f.read a.1 >>= whole_of

  form_judged : (n : ℕ) (after : Reader) (wrong : Fault CdrWhy) (a : Unit {0} × Reader) → judge (is_form form n) after wrong ≡ Ok a → (n ≡ form) × (after ≡ a.1)
  form_judged n after wrong a h = go (eqb n form) refl h
    where
      go : (b : Bool) → eqb n form ≡ b → judge (cond b (Some tt) None) after wrong ≡ Ok a → (n ≡ form) × (after ≡ a.1)
      go true t k = (eqb-true n form t, ap (λ (p : Unit {0} × Reader). p.1) (ok_is (with_reader tt after) a k))
      go false t k = absurd (err_ok a wrong k)

  formed_opens : (r : Reader) (y : X × Reader) → (formed form f).read r ≡ Ok y → Opens form f r y
  formed_opens r y e =
      let a = bind_ok ((form_octet form).read r) reading y e in
      let n = bind_ok ((number 1).read r) (judging r) a.0 a.1 in
      let j = form_judged n.0.0 n.0.1 (fault_at out_of_range (start 1 r.place)) a.0 n.2 in
      let b = bind_ok (f.read a.0.1) whole_of y a.2 in
      record { octet = n.0; first = n.1; form_is = j.0; others = ap f.read j.1 ∙ b.1 ∙ b.2 }

  formed_goes : (r : Reader) (y : X × Reader) → Opens form f r y → (formed form f).read r ≡ Ok y
  formed_goes r y o =
      let is : is_form form o.octet.0 ≡ Some tt = ap (λ b. cond b (Some tt) None) (eq-eqb o.octet.0 form o.form_is) in
      let judged = ap (λ (m : Option (Unit {0})). judge m o.octet.1 (fault_at out_of_range (start 1 r.place))) is in
      bind_goes ((form_octet form).read r) reading (with_reader tt o.octet.1) _
      (bind_goes ((number 1).read r) (judging r) o.octet _ o.first judged)
      (bind_goes (f.read o.octet.1) whole_of y _ o.others refl)

  -- a form that is read to the end is spelled by all of the bytes
  form_spelled : IsCodec Short f → (bytes : List ℕ) (x : X) (after : Reader) → Opens form f (reader_at Big 1 bytes) (x, after) → after.rest ≡ []
      → (formed form f).Spelled Big 1 x bytes
  form_spelled law bytes x after o none =
      let t = (formed_codec form f law).found (reader_at Big 1 bytes) (x, after) (formed_goes (reader_at Big 1 bytes) (x, after) o) in
      let all : bytes ≡ t.bytes = t.moved.is ∙ ap (λ (l : List ℕ). t.bytes ++ l) none ∙ append-nil t.bytes in
      subst (λ (l : List ℕ). (formed form f).Spelled Big 1 x l) (sym all) t.spelled

  -- and one that is spelled by all of them is read to the end
  form_read : IsCodec Short f → (bytes : List ℕ) (x : X) → (formed form f).Spelled Big 1 x bytes
      → Opens form f (reader_at Big 1 bytes) (x, reader_at Big (1 + length bytes) [])
  form_read law bytes x s =
      formed_opens (reader_at Big 1 bytes) (x, reader_at Big (1 + length bytes) [])
      (ap (λ (l : List ℕ). (formed form f).read (reader_at Big 1 l)) (sym (append-nil bytes)) ∙ (formed_codec form f law).again Big 1 x bytes [] s)

-- ---- a record by its form

abbrev as_entry : Accepted × Reader → Read CdrWhy Record
as_entry x = Ok (records.Entry x.0, x.1)

abbrev as_view : View × Reader → Read CdrWhy Record
as_view x = Ok (records.View x.0, x.1)

abbrev as_checkpoint : Checkpoint × Reader → Read CdrWhy Record
as_checkpoint x = Ok (records.Checkpoint x.0, x.1)

abbrev Tells : Record → Reader → Reader → Type 0
Tells (records.Entry e) r after = Opens 1 entry r (e, after)
Tells (records.View v) r after = Opens 2 view r (v, after)
Tells (records.Checkpoint k) r after = Opens 3 checkpoint r (k, after)

module _ (r : Reader) (octet : ℕ × Reader) (first : (number 1).read r ≡ Ok octet) (told : Record) (after : Reader) where
  is_entry : octet.0 ≡ 1 → (entry.read octet.1 >>= as_entry) ≡ Ok (told, after) → Tells told r after
  is_entry form h =
      let a = bind_ok (entry.read octet.1) as_entry (told, after) h in
      subst (λ (p : Record × Reader). Tells p.0 r p.1) (ok_is (with_reader (records.Entry a.0.0) a.0.1) (told, after) a.2)
      (record { octet = octet; first = first; form_is = form; others = a.1 })

  is_view : octet.0 ≡ 2 → (view.read octet.1 >>= as_view) ≡ Ok (told, after) → Tells told r after
  is_view form h =
      let a = bind_ok (view.read octet.1) as_view (told, after) h in
      subst (λ (p : Record × Reader). Tells p.0 r p.1) (ok_is (with_reader (records.View a.0.0) a.0.1) (told, after) a.2)
      (record { octet = octet; first = first; form_is = form; others = a.1 })

  is_checkpoint : octet.0 ≡ 3 → (checkpoint.read octet.1 >>= as_checkpoint) ≡ Ok (told, after) → Tells told r after
  is_checkpoint form h =
      let a = bind_ok (checkpoint.read octet.1) as_checkpoint (told, after) h in
      subst (λ (p : Record × Reader). Tells p.0 r p.1) (ok_is (with_reader (records.Checkpoint a.0.0) a.0.1) (told, after) a.2)
      (record { octet = octet; first = first; form_is = form; others = a.1 })

  abbrev third : ℕ → Bool → Read CdrWhy Record
  third place b = cond b (checkpoint.read octet.1 >>= as_checkpoint) (Err (fault_at out_of_range place))

  abbrev second : ℕ → Bool → Read CdrWhy Record
  second place b = cond b (view.read octet.1 >>= as_view) (third place (eqb octet.0 3))

  three : (place : ℕ) (b : Bool) → eqb octet.0 3 ≡ b → third place b ≡ Ok (told, after) → Tells told r after
  three place true t h = is_checkpoint (eqb-true octet.0 3 t) h
  three place false t h = absurd (err_ok (with_reader told after) (fault_at out_of_range place) h)

  two : (place : ℕ) (b : Bool) → eqb octet.0 2 ≡ b → second place b ≡ Ok (told, after) → Tells told r after
  two place true t h = is_view (eqb-true octet.0 2 t) h
  two place false t h = three place (eqb octet.0 3) refl h

  one : (place : ℕ) (b : Bool) → eqb octet.0 1 ≡ b → cond b (entry.read octet.1 >>= as_entry) (second place (eqb octet.0 2)) ≡ Ok (told, after)
      → Tells told r after
  one place true t h = is_entry (eqb-true octet.0 1 t) h
  one place false t h = two place (eqb octet.0 2) refl h

  by_form : (place : ℕ) → record_by octet.0 place octet.1 ≡ Ok (told, after) → Tells told r after
  by_form place h = one place (eqb octet.0 1) refl h

told_read : (r : Reader) (told : Record) (after : Reader) → Tells told r after → record_read r ≡ Ok (told, after)
told_read r (records.Entry e) after o =
    bind_goes ((number 1).read r) (λ form. record_by form.0 r.place form.1) o.octet _ o.first
    (ap (λ (n : ℕ). record_by n r.place o.octet.1) o.form_is ∙ bind_goes (entry.read o.octet.1) as_entry _ _ o.others refl)
told_read r (records.View v) after o =
    bind_goes ((number 1).read r) (λ form. record_by form.0 r.place form.1) o.octet _ o.first
    (ap (λ (n : ℕ). record_by n r.place o.octet.1) o.form_is ∙ bind_goes (view.read o.octet.1) as_view _ _ o.others refl)
told_read r (records.Checkpoint k) after o =
    bind_goes ((number 1).read r) (λ form. record_by form.0 r.place form.1) o.octet _ o.first
    (ap (λ (n : ℕ). record_by n r.place o.octet.1) o.form_is ∙ bind_goes (checkpoint.read o.octet.1) as_checkpoint _ _ o.others refl)

read_told : (r : Reader) (told : Record) (after : Reader) → record_read r ≡ Ok (told, after) → Tells told r after
read_told r told after h =
    let a = bind_ok ((number 1).read r) (λ form. record_by form.0 r.place form.1) (told, after) h in
    by_form r a.0 a.1 told after r.place a.2

spelled_by : (bytes : List ℕ) (told : Record) (after : Reader) → Tells told (reader_at Big 1 bytes) after → after.rest ≡ [] → SpellsForm told bytes
spelled_by bytes (records.Entry e) after o none = form_spelled 1 entry entry_codec bytes e after o none
spelled_by bytes (records.View v) after o none = form_spelled 2 view view_codec bytes v after o none
spelled_by bytes (records.Checkpoint k) after o none = form_spelled 3 checkpoint checkpoint_codec bytes k after o none

spelled_tells : (bytes : List ℕ) (told : Record) → SpellsForm told bytes → Tells told (reader_at Big 1 bytes) (reader_at Big (1 + length bytes) [])
spelled_tells bytes (records.Entry e) s = form_read 1 entry entry_codec bytes e s
spelled_tells bytes (records.View v) s = form_read 2 view view_codec bytes v s
spelled_tells bytes (records.Checkpoint k) s = form_read 3 checkpoint checkpoint_codec bytes k s

-- ---- a record is read whole

record Ends (q : Read CdrWhy Record) (told : Record) : Type 0 where
  pub after : Reader
  pub is : q ≡ Ok (told, after)
  pub none : after.rest ≡ []

ends : (q : Read CdrWhy Record) (told : Record) → ended q ≡ Some told → Ends q told
ends (Ok y) told h = go y.1.rest refl h
  where
    go : (rest : List ℕ) → y.1.rest ≡ rest → ended_by y.0 rest ≡ Some told → Ends (Ok y) told
    go [] is k = record { after = y.1; is = ap (λ (x : Record). Ok (with_reader x y.1)) (some_is y.0 told k); none = is }
    go (b ∷ rest) is k = absurd cc
ends (Err wrong) told h = absurd cc

record Begins (piece : List ℕ) (told : Record) : Type 0 where
  pub bytes : List ℕ
  pub is : piece ≡ 0 ∷ bytes
  pub whole : ended (record_read (reader_at Big 1 bytes)) ≡ Some told

begins : (piece : List ℕ) (told : Record) → in_big record_read (opened piece) ≡ Some told → Begins piece told
begins [] told h = absurd cc
begins (zero ∷ bytes) told h = record { bytes = bytes; is = refl; whole = h }
begins (suc zero ∷ bytes) told h = absurd cc
begins (suc (suc n) ∷ bytes) told h = absurd cc

record_found : (piece : List ℕ) (told : Record) → record_in piece ≡ Some told → SpellsRecord piece told
unfolding record_in
record_found piece told h = go (nat_lt (length piece + 8) 4294967296) refl h
  where
    go : (b : Bool) → nat_lt (length piece + 8) 4294967296 ≡ b → cond b (in_big record_read (opened piece)) None ≡ Some told → SpellsRecord piece told
    go true t k =
        let b = begins piece told k in
        let e = ends (record_read (reader_at Big 1 b.bytes)) told b.whole in
        record {
          bytes = b.bytes;
          is = b.is;
          spelled = spelled_by b.bytes told e.after (read_told (reader_at Big 1 b.bytes) told e.after e.is) e.none;
          short = ltb-true (length piece + 8) 4294967296 t;
        }
    go false t k = absurd cc

record_again : (piece : List ℕ) (told : Record) → SpellsRecord piece told → record_in piece ≡ Some told
unfolding record_in
record_again piece told s =
    let short = lt-ltb (length piece + 8) 4294967296 s.short in
    let read = told_read (reader_at Big 1 s.bytes) told (reader_at Big (1 + length s.bytes) []) (spelled_tells s.bytes told s.spelled) in
    ap (λ (b : Bool). cond b (in_big record_read (opened piece)) None) short
    ∙ ap (λ (l : List ℕ). in_big record_read (opened l)) s.is
    ∙ ap (λ (q : Read CdrWhy Record). ended q) read

spelled_as : (piece : List ℕ) (o : Option Record) → o ≡ record_in piece → IsSpelledAs piece o
spelled_as piece (Some told) h = record_found piece told (sym h)
spelled_as piece None h = λ told s. none_some told (h ∙ record_again piece told s)
  where
    none_some : (told : Record) → None ≡ Some told → ⊥
    none_some told k = cc

pub is_spelled : (piece : List ℕ) (result : Result (Option Record) NoMemory) → IfOk result (λ told. told ≡ record_in piece) → IfOk result (λ told. IsSpelledAs piece told)
is_spelled piece (Ok o) h = spelled_as piece o h
is_spelled piece (Err e) h = tt
