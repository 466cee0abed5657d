-- A record that is written is read again: each format of a record reads back, by the formats of its parts.
use Rattle.std.proofs.Common.{◌≡◌, ℕ, ◌+◌, ◌^◌, ◌<◌, Bool, true, false, cond, List, [], ◌∷◌, ◌++◌, length, Option, Some, None, Result, Ok, refl, sym, ap, ◌∙◌, append_assoc, length-append, arith}
use Rattle.std.specs.Int.{Width, w32}
use Rattle.std.specs.List.{AllByRecursion}
use Rattle.std.proofs.lemmas.Bool.{lt-ltb}
use Rattle.cdr_codec.specs.declared.faults.CdrWhy.{CdrWhy}
use Rattle.cdr_codec.specs.declared.faults.CdrWhy.TheVariants.{BadString}
use Rattle.cdr_codec.specs.declared.orders.Order.{Order}
use Rattle.cdr_codec.specs.declared.orders.Order.TheVariants.{Big}
use Rattle.cdr_codec.specs.Reading.{Reader, reader_at, Fault, fault_at, Read, start, ◌>>=◌}
use Rattle.cdr_codec.specs.Encapsulations.{opened}
use Rattle.cdr_codec.specs.Formats.{Format, number, octets, nothing, judge, judged, shaped, written_number, written_each, read_each, sequence}
use Rattle.cdr_codec.specs.Laws.{ReadsBack}
use Rattle.cdr_codec.specs.Structs.{Fields, field, whole, struct}
use Rattle.cdr_codec.specs.Values.{boolean, text, signed}
use Rattle.ft_base.specs.declared.numbers.Tick.{Tick}
use Rattle.ft_base.specs.declared.numbers.Version.{Version}
use Rattle.ft_base.specs.declared.views.View.{View}
use Rattle.log_records.specs.Records.{out_of_range, within, number_within, version, tick, name_of, name, just, behind, optional, optional_fields, key, key_fields, request, request_fields, entry, entry_fields, members_of, members, primary_of, primary_sign, primary, view, view_fields, user_name, outcome, outcome_by, outcome_fields, retained, retained_fields, retained_of, retained_below, checkpoint, checkpoint_fields, formed, ended, in_big, record_by, record_read, record_in, entry_record, view_record, checkpoint_record}
use Rattle.log_records.specs.declared.records.Accepted.{Accepted}
use Rattle.log_records.specs.declared.records.Checkpoint.{Checkpoint}
use Rattle.log_records.specs.declared.records.Record.{Record}
use Rattle.log_records.specs.declared.records.Record.TheVariants as records
use Rattle.message_log.specs.Written.{RecordsAreRead}

abbrev with_reader : {X : Type 0} → X → Reader → X × Reader
with_reader x r = (x, r)

abbrev done : {W X : Type 0} → X → Reader → Read W X
done x r = Ok (x, r)

-- a step after one that did not fail
goes : {A B E : Type 0} (r : Result A E) (f : A → Result B E) (x : A) (z : Result B E) → r ≡ Ok x → f x ≡ z → (r >>= f) ≡ z
goes r f x z e d = rw e d

-- ---- what is made of formats that read back

judged_back : {X Y : Type 0} (f : Format CdrWhy X) (size : ℕ) (why : CdrWhy) (meaning : X → Option Y) (sign : Y → X) → ReadsBack f → ReadsBack (judged f size why meaning sign)
judged_back f size why meaning sign law order place y more h =
    let bytes = f.written order place (sign y) in
    let after = reader_at order (place + length bytes) more in
    let wrong : Fault CdrWhy = fault_at why (start size place) in
    goes (f.read (reader_at order place (bytes ++ more))) (λ x. judge (meaning x.0) x.1 wrong) (with_reader (sign y) after) _ (law order place (sign y) more h.0)
    (ap (λ m. judge m after wrong) h.1)

shaped_back : {X Y : Type 0} (f : Format CdrWhy X) (to : X → Y) (from : Y → X) → ((y : Y) → to (from y) ≡ y) → ReadsBack f → ReadsBack (shaped f to from)
shaped_back f to from is law order place y more h =
    let bytes = f.written order place (from y) in
    let after = reader_at order (place + length bytes) more in
    goes (f.read (reader_at order place (bytes ++ more))) (λ x. Ok (to x.0, x.1)) (with_reader (from y) after) _ (law order place (from y) more h)
    (ap (λ z. done z after) (is y))

nothing_back : {X : Type 0} (x : X) → ReadsBack (nothing {W = CdrWhy} x)
nothing_back x order place y more h =
    let here : place ≡ place + length {A = ℕ} [] = omega arith in
    ap (λ z. done z (reader_at order place more)) (sym h) ∙ ap (λ (n : ℕ). done y (reader_at order n more)) here

field_back : {A S : Type 0} (f : Format CdrWhy A) (name_in : S → A) (rest : A → Fields CdrWhy S) → ReadsBack f → ((a : A) → ReadsBack (struct (rest a)))
    → ReadsBack (struct (field f name_in rest))
field_back {A = A} {S = S} f name_in rest law others order place x more h =
    let next : A × Reader → Read CdrWhy S = λ a. (struct (rest a.0)).read a.1 in
    let front = f.written order place (name_in x) in
    let back = (struct (rest (name_in x))).written order (place + length front) x in
    let end : place + length front + length back ≡ place + length (front ++ back) = omega (arith, length-append front back) in
    ap (λ (l : List ℕ). (struct (field f name_in rest)).read (reader_at order place l)) (append_assoc front back more)
    ∙ goes (f.read (reader_at order place (front ++ (back ++ more)))) next (with_reader (name_in x) (reader_at order (place + length front) (back ++ more))) _
    (law order place (name_in x) (back ++ more) h.0) (others (name_in x) order (place + length front) x more h.1)
    ∙ ap (λ (n : ℕ). done x (reader_at order n more)) end

-- each field reads back
abbrev ReadBack : {S : Type 0} → Fields CdrWhy S → Type 0
ReadBack (whole x) = Unit {0}
ReadBack (field {A} f name_in rest) = ReadsBack f × ((a : A) → ReadBack (rest a))

struct_back : {S : Type 0} (fields : Fields CdrWhy S) → ReadBack fields → ReadsBack (struct fields)
struct_back (whole x) h = nothing_back x
struct_back (field f name_in rest) h = field_back f name_in rest h.0 (λ a. struct_back (rest a) (h.1 a))

abbrev front_of : {X : Type 0} → X → List X × Reader → Read CdrWhy (List X)
front_of x xs = Ok (x ∷ xs.0, xs.1)

each_back : {X : Type 0} (f : Format CdrWhy X) → ReadsBack f → (order : Order) (place : ℕ) (xs : List X) (more : List ℕ) → AllByRecursion f.Valid xs
    → read_each f.read (length xs) (reader_at order place (written_each f.written order place xs ++ more))
    ≡ done xs (reader_at order (place + length (written_each f.written order place xs)) more)
unfolding read_each
each_back f law order place [] more h =
    let here : place ≡ place + length {A = ℕ} [] = omega arith in
    ap (λ (n : ℕ). done [] (reader_at order n more)) here
each_back {X = X} f law order place (x ∷ xs) more h =
    let front = f.written order place x in
    let back = written_each f.written order (place + length front) xs in
    let next : X × Reader → Read CdrWhy (List X) = λ a. read_each f.read (length xs) a.1 >>= λ all. front_of a.0 all in
    let end : place + length front + length back ≡ place + length (front ++ back) = omega (arith, length-append front back) in
    ap (λ (l : List ℕ). read_each f.read (length (x ∷ xs)) (reader_at order place l)) (append_assoc front back more)
    ∙ goes (f.read (reader_at order place (front ++ (back ++ more)))) next (with_reader x (reader_at order (place + length front) (back ++ more))) _
    (law order place x (back ++ more) h.0)
    (goes (read_each f.read (length xs) (reader_at order (place + length front) (back ++ more))) (λ all. front_of x all)
    (with_reader xs (reader_at order (place + length front + length back) more)) _ (each_back f law order (place + length front) xs more h.1) refl)
    ∙ ap (λ (n : ℕ). done (x ∷ xs) (reader_at order n more)) end

just_back : {X : Type 0} (f : Format CdrWhy X) → ReadsBack f → ReadsBack (just f)
just_back f law order place None more h = absurd h
just_back f law order place (Some x) more h =
    let bytes = f.written order place x in
    let after = reader_at order (place + length bytes) more in
    goes (f.read (reader_at order place (bytes ++ more))) (λ y. Ok (Some y.0, y.1)) (with_reader x after) _ (law order place x more h) refl

-- ---- the fields of records, from the laws of numbers, texts and octets

module _ (numbers : (size : ℕ) → ReadsBack (number size)) (signs : (w : Width) → ReadsBack (signed w)) (booleans : ReadsBack boolean) (texts : ReadsBack text) (pieces : ReadsBack octets) where
  sequence_back : {X : Type 0} (f : Format CdrWhy X) → ReadsBack f → ReadsBack (sequence f)
  sequence_back {X = X} f law order place xs more h =
      let front = written_number 4 order place (length xs) in
      let back = written_each f.written order (place + length front) xs in
      let next : ℕ × Reader → Read CdrWhy (List X) = λ n. read_each f.read n.0 n.1 in
      let end : place + length front + length back ≡ place + length (front ++ back) = omega (arith, length-append front back) in
      ap (λ (l : List ℕ). (sequence f).read (reader_at order place l)) (append_assoc front back more)
      ∙ goes ((number 4).read (reader_at order place (front ++ (back ++ more)))) next (with_reader (length xs) (reader_at order (place + length front) (back ++ more))) _
      (numbers 4 order place (length xs) (back ++ more) h.0) (each_back f law order (place + length front) xs more h.1)
      ∙ ap (λ (n : ℕ). done xs (reader_at order n more)) end

  behind_back : {X : Type 0} (f : Format CdrWhy X) → ReadsBack f → (b : Bool) → ReadBack (behind f b)
  behind_back f law true = (just_back f law, λ o. tt)
  behind_back f law false = tt

  optional_back : {X : Type 0} (f : Format CdrWhy X) → ReadsBack f → ReadsBack (optional f)
  optional_back f law = struct_back (optional_fields f) (booleans, behind_back f law)

  within_back : (low high : ℕ) → ReadsBack (number_within low high)
  within_back low high = judged_back (number 4) 4 out_of_range (within low high) (λ n. n) (numbers 4)

  abbrev version_with : ℕ → Version
  version_with n = record { 0 = n }

  abbrev tick_with : ℕ → Tick
  tick_with n = record { 0 = n }

  version_back : ReadsBack version
  version_back = shaped_back (number_within 1 65536) version_with (λ v. v.0) (λ v. refl) (within_back 1 65536)

  tick_back : ReadsBack tick
  tick_back = shaped_back (number 8) tick_with (λ t. t.0) (λ t. refl) (numbers 8)

  name_back : ReadsBack name
  name_back = judged_back text 4 BadString name_of (λ n. n) texts

  key_back : ReadsBack key
  key_back = struct_back key_fields (name_back, λ client. (signs w32, λ retention. (tick_back, λ expiration. tt)))

  request_back : ReadsBack request
  request_back = struct_back request_fields (optional_back key key_back, λ k. (name_back, λ op. (pieces, λ args. tt)))

  entry_back : ReadsBack entry
  entry_back = struct_back entry_fields (within_back 0 262143, λ p. (version_back, λ v. (tick_back, λ at. (request_back, λ q. tt))))

  members_back : ReadsBack members
  members_back = judged_back octets 4 out_of_range members_of (λ hosts. hosts) pieces

  primary_back : (hosts : List ℕ) → ReadsBack (primary hosts)
  primary_back hosts = judged_back (number 1) 1 out_of_range (primary_of hosts) primary_sign (numbers 1)

  view_back : ReadsBack view
  view_back = struct_back view_fields (version_back, λ v. (members_back, λ hosts. (primary_back hosts, λ p. tt)))

  user_back : ReadsBack user_name
  user_back = judged_back octets 4 BadString name_of (λ n. n) pieces

  outcomes_back : (b : Bool) → ReadBack (outcome_by b)
  outcomes_back true = (pieces, λ value. tt)
  outcomes_back false = (user_back, λ user. tt)

  outcome_back : ReadsBack outcome
  outcome_back = struct_back outcome_fields (booleans, outcomes_back)

  retained_back : ReadsBack retained
  retained_back =
      struct_back retained_fields
      (within_back 0 262143, λ p. (version_back, λ v. (tick_back, λ at. (request_back, λ q. (optional_back outcome outcome_back, λ reply. tt)))))

  below_back : (end : ℕ) → ReadsBack (retained_below end)
  below_back end = judged_back (sequence retained) 4 out_of_range (retained_of end) (λ entries. entries) (sequence_back retained retained_back)

  checkpoint_back : ReadsBack checkpoint
  checkpoint_back =
      struct_back checkpoint_fields (within_back 0 262144, λ m. (tick_back, λ time. (pieces, λ state. (below_back m, λ entries. tt))))

  -- ---- a record

  module _ {X : Type 0} (form : ℕ) (f : Format CdrWhy X) (told : X → Record) where
    abbrev telling : X × Reader → Read CdrWhy Record
    telling x = Ok (told x.0, x.1)

    form_back : ReadsBack f → (form < 256 ^ 1) → ((place : ℕ) (r : Reader) → record_by form place r ≡ (f.read r >>= telling)) → (x : X) → f.Valid x
        → ended (record_read (reader_at Big 1 ((formed form f).written Big 1 x))) ≡ Some (told x)
    form_back law fits by x h =
        let front = written_number 1 Big 1 form in
        let body = f.written Big (1 + length front) x in
        let bytes = body ++ [] in
        let next : ℕ × Reader → Read CdrWhy Record = λ n. record_by n.0 1 n.1 in
        let behind-form = reader_at Big (1 + length front) bytes in
        ap ended
        (goes ((number 1).read (reader_at Big 1 (front ++ bytes))) next (with_reader form behind-form) _ (numbers 1 Big 1 form bytes fits)
        (by 1 behind-form
        ∙ goes (f.read behind-form) telling (with_reader x (reader_at Big (1 + length front + length body) [])) _ (law Big (1 + length front) x [] h) refl))

  whole_piece : (bytes : List ℕ) (told : Record) → length (0 ∷ bytes) + 8 < 4294967296 → ended (record_read (reader_at Big 1 bytes)) ≡ Some told
      → record_in (0 ∷ bytes) ≡ Some told
  unfolding record_in
  whole_piece bytes told short h =
      ap (λ (b : Bool). cond b (in_big record_read (opened (0 ∷ bytes))) None) (lt-ltb (length (0 ∷ bytes) + 8) 4294967296 short) ∙ h

  entry_read : (e : Accepted) → entry.Valid e → length (entry_record e) + 8 < 4294967296 → record_in (entry_record e) ≡ Some (records.Entry e)
  unfolding entry_record
  entry_read e h short = whole_piece ((formed 1 entry).written Big 1 e) (records.Entry e) short (form_back 1 entry records.Entry entry_back (omega arith) (λ place r. refl) e h)

  view_read : (v : View) → view.Valid v → length (view_record v) + 8 < 4294967296 → record_in (view_record v) ≡ Some (records.View v)
  unfolding view_record
  view_read v h short = whole_piece ((formed 2 view).written Big 1 v) (records.View v) short (form_back 2 view records.View view_back (omega arith) (λ place r. refl) v h)

  checkpoint_read : (k : Checkpoint) → checkpoint.Valid k → length (checkpoint_record k) + 8 < 4294967296 → record_in (checkpoint_record k) ≡ Some (records.Checkpoint k)
  unfolding checkpoint_record
  checkpoint_read k h short =
      whole_piece ((formed 3 checkpoint).written Big 1 k) (records.Checkpoint k) short (form_back 3 checkpoint records.Checkpoint checkpoint_back (omega arith) (λ place r. refl) k h)

  pub records_are_read : RecordsAreRead
  records_are_read (records.Entry e) h = entry_read e h.valid h.short
  records_are_read (records.View v) h = view_read v h.valid h.short
  records_are_read (records.Checkpoint k) h = checkpoint_read k h.valid h.short
