-- Parameters are codecs, and their canonical form is that of their types.
use Rattle.std.proofs.Common.{◌≡◌, ℕ, ◌+◌, ◌^◌, ◌<◌, ◌==◌, Bool, true, false, List, [], ◌∷◌, ◌++◌, length, replicate, Option, Some, None, refl, sym, ap, subst, ◌∙◌, append_assoc, append-nil, length-append, arith, slice_index, map, IsOk, IfOk, Result, inl, inr, lit<, take, length-take-le, cond, eqb, eqb-true, Ok, Err}
use Rattle.std.specs.List.{All}
use Rattle.std.specs.Int.{w64, cast_signed}
use Rattle.std.proofs.Math.Facts.{Fits-of_lt, Fits-of_z, Fits-lt-pow, sfits_to_z}
use Rattle.std.proofs.lemmas.Bool.{cases_lt}
use Rattle.std.proofs.lemmas.List.{nil_from_length, get_or_append_left, get_or_past, get_or-append-add}
use Rattle.std.proofs.lemmas.List.Elements.{All-head, All-tail}
use Rattle.ft_base.specs.Text.{zero_place}
use Rattle.byteorder.specs.Numbers.{big_from-lt, little_from-lt}
use Rattle.ft_base.specs.Canonical.{padding, number_at, text_at, type_of, value_at, values_at, HasSpelling, AreOf, AreSpelledAs}
use Rattle.ft_base.specs.declared.memory.NoMemory.{NoMemory}
use Rattle.ft_base.specs.declared.requests.Par.{Par}
use Rattle.ft_base.specs.declared.requests.Par.TheVariants.{I64, U32, Bool as Truth, Text, Octets}
use Rattle.ft_base.specs.declared.values.Value.{Value}
use Rattle.ft_base.specs.declared.values.Value.TheVariants as values
use Rattle.cdr_codec.specs.declared.orders.Order.{Order}
use Rattle.cdr_codec.specs.declared.orders.Order.TheVariants.{Big, Little}
use Rattle.cdr_codec.specs.declared.faults.CdrWhy.{CdrWhy}
use Rattle.cdr_codec.specs.declared.faults.CdrWhy.TheVariants.{Short}
use Rattle.cdr_codec.specs.Reading.{Reader, reader_at, Fault, ◌>>=◌, number_in}
use Rattle.cdr_codec.specs.Formats.{SpellsNumber, written_number, number, SpellsOctets, octets, followed, written_each}
use Rattle.cdr_codec.specs.Laws.{IsCodec}
use Rattle.cdr_codec.specs.Values.{bool_sign, boolean, text, text_up_to, signed}
use Rattle.cdr_codec.specs.Arguments.{signed_of, number_of, bool_in, bytes_of, param, written_value, first_and_rest, params, values_read, whole, whole_read, spelled_again, reordered, IsReordered, IsReadAs}
use Rattle.cdr_codec.specs.Copies.{formed}
use Rattle.cdr_codec.proofs.Steps.{done, bind_ok, bind_goes, ok_is, ok_err, with_reader}
use Rattle.cdr_codec.proofs.Strings.{zero_place_before}
use Rattle.cdr_codec.proofs.Codecs.{number_codec, octets_codec, nothing_codec, followed_codec, judged_codec}
use Rattle.cdr_codec.proofs.ValueLaws.{boolean_codec, text_codec, signed_codec, boolean_valid, text_valid, signed_valid}

pub param_codec : (par : Par) → IsCodec Short (param par)
param_codec I64 = judged_codec Short (signed w64) 8 Short (λ n. Some (values.I64 n)) signed_of (signed_codec w64)
param_codec U32 = judged_codec Short (number 4) 4 Short (λ n. Some (values.U32 n)) number_of (number_codec 4)
param_codec Truth = judged_codec Short boolean 1 Short (λ b. Some (values.Bool b)) bool_in boolean_codec
param_codec Text = judged_codec Short text 4 Short (λ t. Some (values.Text t)) bytes_of text_codec
param_codec Octets = judged_codec Short octets 4 Short (λ xs. Some (values.Octets xs)) bytes_of octets_codec

pub params_codec : (pars : List Par) → IsCodec Short (params pars)
params_codec [] = nothing_codec Short []
params_codec (par ∷ pars) =
    judged_codec Short (followed (param par) (λ v. params pars)) 1 Short (λ p. Some (p.0 ∷ p.1)) first_and_rest
    (followed_codec Short (param par) (λ v. params pars) (param_codec par) (λ v. params_codec pars))

-- ---- what is read is of its type

abbrev pub AreBytes : List ℕ → Type 0
AreBytes bytes = (i : ℕ) → slice_index bytes i < 256

AreBytes-front : (xs ys : List ℕ) → AreBytes (xs ++ ys) → AreBytes xs
AreBytes-front xs ys h i = elim (cases_lt i (length xs)) [
  | inl within ↦ rw (get_or_append_left xs ys 0 i within) at (h i)
  | inr past ↦ rw (get_or_past xs i 0 past) (lit< tt)
]

AreBytes-back : (xs ys : List ℕ) → AreBytes (xs ++ ys) → AreBytes ys
AreBytes-back xs ys h i = rw (get_or-append-add xs ys i 0) at (h (length xs + i))

number-fits : (size : ℕ) (order : Order) (digits : List ℕ) → AreBytes digits → number_in order size digits < 256 ^ size
number-fits size Big digits h = big_from-lt 0 size digits h
number-fits size Little digits h = little_from-lt 0 size digits h

-- a number that is spelled by bytes fits its size
spelled-fits : (size : ℕ) (order : Order) (place n : ℕ) (bytes : List ℕ) → AreBytes bytes → SpellsNumber size order place n bytes → n < 256 ^ size
spelled-fits size order place n bytes h s =
    let digits : AreBytes s.digits = AreBytes-back s.pad s.digits (rw s.is at h) in
    rw s.value (number-fits size order s.digits digits)

octets-fit : (order : Order) (place : ℕ) (xs bytes : List ℕ) → AreBytes bytes → SpellsOctets order place xs bytes → length xs < 2 ^ 32
octets-fit order place xs bytes h s = spelled-fits 4 order place (length xs) s.front (AreBytes-front s.front xs (rw s.is at h)) s.counted

-- a string and its octets
record Ends (octets t : List ℕ) : Type 0 where
  pub no_zero : zero_place t ≡ None
  pub len : length t + 1 ≡ length octets

if_so : (b : Bool) (xs t : List ℕ) → cond b (Some xs) None ≡ Some t → (b ≡ true) × (xs ≡ t)
if_so true xs t e = (refl, cc)
if_so false xs t e = absurd cc

ends_at : (octets t : List ℕ) (end : Option ℕ) → zero_place octets ≡ end → text_up_to octets end ≡ Some t → Ends octets t
ends_at octets t None e h = absurd cc
ends_at octets t (Some n) e h =
    let so = if_so (eqb (n + 1) (length octets)) (take n octets) t h in
    let last : n + 1 ≡ length octets = eqb-true _ _ so.0 in
    let len : length (take n octets) ≡ n = length-take-le n octets (omega arith) in
    record {
      no_zero = ap zero_place (sym so.1) ∙ zero_place_before octets n e;
      len = omega (arith, ap length so.1);
    }

some_is : {X : Type 0} (x y : X) → Some x ≡ Some y → x ≡ y
some_is x y e = cc

-- a value of this type, which has a spelling
record IsOf (par : Par) (v : Value) : Type 0 where
  pub typed : type_of v ≡ par
  pub spelled : HasSpelling v

is_of : (par : Par) (order : Order) (place : ℕ) (v : Value) (bytes : List ℕ) → AreBytes bytes → (param par).Spelled order place v bytes → IsOf par v
is_of I64 order place v bytes h s =
    let n = s.spelled.sign in
    let z-is : cast_signed w64 n ≡ s.sign = some_is (cast_signed w64 n) s.sign s.spelled.means in
    let fits = sfits_to_z {w = w64} {n = n} (Fits-of_lt (spelled-fits 8 order place n bytes h s.spelled.spelled)) in
    subst (IsOf I64) (ap values.I64 z-is ∙ some_is (values.I64 s.sign) v s.means) (record { typed = refl; spelled = fits })
is_of U32 order place v bytes h s =
    subst (IsOf U32) (some_is (values.U32 s.sign) v s.means) (record { typed = refl; spelled = spelled-fits 4 order place s.sign bytes h s.spelled })
is_of Truth order place v bytes h s = subst (IsOf Truth) (some_is (values.Bool s.sign) v s.means) (record { typed = refl; spelled = tt })
is_of Text order place v bytes h s =
    let text = s.spelled in
    let ends = ends_at text.sign s.sign (zero_place text.sign) refl text.means in
    let fits = octets-fit order place text.sign bytes h text.spelled in
    let small : length s.sign + 1 < 2 ^ 32 = omega (arith, ends.len) in
    subst (IsOf Text) (some_is (values.Text s.sign) v s.means) (record { typed = refl; spelled = (ends.no_zero, small) })
is_of Octets order place v bytes h s =
    subst (IsOf Octets) (some_is (values.Octets s.sign) v s.means) (record { typed = refl; spelled = octets-fit order place s.sign bytes h s.spelled })

pub are_of : (pars : List Par) (order : Order) (place : ℕ) (vs : List Value) (bytes : List ℕ) → AreBytes bytes → (params pars).Spelled order place vs bytes → AreOf pars vs
are_of [] order place vs bytes h s = subst (AreOf []) (sym s.0) tt
are_of (par ∷ pars) order place vs bytes h s =
    let two = s.spelled in
    let bytes-are : AreBytes (two.front ++ two.back) = rw two.is at h in
    let first = is_of par order place s.sign.0 two.front (AreBytes-front two.front two.back bytes-are) two.first in
    let rest = are_of pars order (place + length two.front) s.sign.1 two.back (AreBytes-back two.front two.back bytes-are) two.second in
    let both : AreOf (par ∷ pars) (s.sign.0 ∷ s.sign.1) = (first.typed, first.spelled, rest) in
    subst (AreOf (par ∷ pars)) (some_is (s.sign.0 ∷ s.sign.1) vs s.means) both

-- ---- the canonical form

one_aligned : (place : ℕ) → padding place 1 ≡ 0
one_aligned place = omega arith

bool_bytes : (b : Bool) (at : ℕ) → written_number 1 Big at (bool_sign b) ≡ bool_sign b ∷ []
bool_bytes true at = ap (λ (n : ℕ). replicate n 0 ++ (1 ∷ [])) (one_aligned at)
bool_bytes false at = ap (λ (n : ℕ). replicate n 0 ++ (0 ∷ [])) (one_aligned at)

text_bytes : (t : List ℕ) (at : ℕ) → number_at 4 at (length (t ++ 0 ∷ [])) ++ (t ++ 0 ∷ []) ≡ text_at at t
text_bytes t at =
    ap (λ (n : ℕ). number_at 4 at n ++ (t ++ 0 ∷ [])) (length-append t (0 ∷ []))
    ∙ sym (append_assoc (number_at 4 at (length t + 1)) t (0 ∷ []))

-- the spelling of a value in big endian order is its canonical form
pub value_written : (v : Value) (place : ℕ) → written_value Big place v ≡ value_at place v
value_written (values.I64 n) place = refl
value_written (values.U32 n) place = refl
value_written (values.Bool b) place = bool_bytes b place
value_written (values.Text t) place = text_bytes t place
value_written (values.Octets xs) place = refl

pub each_value_written : (vs : List Value) (place : ℕ) → written_each written_value Big place vs ≡ values_at place vs
each_value_written [] place = refl
each_value_written (v ∷ vs) place =
    ap (λ (l : List ℕ). l ++ written_each written_value Big (place + length l) vs) (value_written v place)
    ∙ ap (λ (l : List ℕ). value_at place v ++ l) (each_value_written vs (place + length (value_at place v)))

pub values_written : (pars : List Par) (vs : List Value) (place : ℕ) → AreOf pars vs → (params pars).written Big place vs ≡ values_at place vs
values_written [] [] place h = refl
values_written [] (v ∷ vs) place h = absurd h
values_written (par ∷ pars) [] place h = absurd h
values_written (par ∷ pars) (v ∷ vs) place h =
    let first : (param par).written Big place v ≡ value_at place v =
    ap (λ (p : Par). (param p).written Big place v) (sym h.0) ∙ value_written v place in
    ap (λ (l : List ℕ). l ++ (params pars).written Big (place + length l) vs) first
    ∙ ap (λ (l : List ℕ). value_at place v ++ l) (values_written pars vs (place + length (value_at place v)) h.2)

-- what a value is, where it is of its type
value_valid : (v : Value) → HasSpelling v → (param (type_of v)).Valid v
value_valid (values.I64 n) h = (signed_valid w64 n h (Fits-lt-pow (Fits-of_z h)), refl)
value_valid (values.U32 n) h = (h, refl)
value_valid (values.Bool b) h = (boolean_valid b, refl)
value_valid (values.Text t) h = (text_valid t h.0 h.1, refl)
value_valid (values.Octets xs) h = (h, refl)

pub values_valid : (pars : List Par) (vs : List Value) → AreOf pars vs → (params pars).Valid vs
values_valid [] [] h = refl
values_valid [] (v ∷ vs) h = absurd h
values_valid (par ∷ pars) [] h = absurd h
values_valid (par ∷ pars) (v ∷ vs) h =
    let first : (param par).Valid v = subst (λ (p : Par). (param p).Valid v) h.0 (value_valid v h.1) in
    ((first, values_valid pars vs h.2), refl)

-- the spelling in big endian order of what was read is in the canonical form of its types
pub formed_spelled : (pars : List Par) (r after : Reader) (args : List ℕ) → AreBytes r.rest → ((params pars).read r >>= formed Big (params pars)) ≡ Ok (args, after)
    → AreSpelledAs pars 0 args
formed_spelled pars r after args h e =
    let v = bind_ok ((params pars).read r) (formed Big (params pars)) (args, after) e in
    let t = (params_codec pars).found r v.0 v.1 in
    let typed = are_of pars r.order r.place v.0.0 t.bytes (AreBytes-front t.bytes v.0.1.rest (rw t.moved.is at h)) t.spelled in
    let args-are : (params pars).written Big 0 v.0.0 ≡ args = ap (λ (p : List ℕ × Reader). p.0) (ok_is (with_reader ((params pars).written Big 0 v.0.0) v.0.1) (args, after) v.2) in
    record { values = v.0.0; typed = typed; is = sym args-are ∙ values_written pars v.0.0 0 typed }

-- the canonical form of what was read up to the end
pub args_are : (pars : List Par) (r after : Reader) (args : List ℕ) → AreBytes r.rest → ((params pars).read r >>= formed Big (params pars)) ≡ Ok (args, after)
    → after.rest ≡ [] → (values_read r pars >>= λ vs. Ok (values_at 0 vs)) ≡ Ok args
args_are pars r after args h e ended =
    let v = bind_ok ((params pars).read r) (formed Big (params pars)) (args, after) e in
    let t = (params_codec pars).found r v.0 v.1 in
    let typed = are_of pars r.order r.place v.0.0 t.bytes (AreBytes-front t.bytes v.0.1.rest (rw t.moved.is at h)) t.spelled in
    let pair-is = ok_is (with_reader ((params pars).written Big 0 v.0.0) v.0.1) (args, after) v.2 in
    let args-are : (params pars).written Big 0 v.0.0 ≡ args = ap (λ (p : List ℕ × Reader). p.0) pair-is in
    let end : v.0.1.rest ≡ [] = ap (λ (p : List ℕ × Reader). p.1.rest) pair-is ∙ ended in
    let read : values_read r pars ≡ Ok v.0.0 = ap whole_read v.1 ∙ ap (λ (l : List ℕ). whole l v.0) end in
    bind_goes (values_read r pars) (λ vs. done (values_at 0 vs)) v.0.0 _ read (ap done (sym (values_written pars v.0.0 0 typed) ∙ args-are))

pub empty_rest : (slice rest : List ℕ) (test : Bool) → slice ≡ rest → test ≡ (length slice == 0) → test ≡ true → rest ≡ []
empty_rest slice rest test e d h = sym e ∙ nil_from_length slice (eqb-true _ _ (sym d ∙ h))

-- ---- reading the canonical form

-- the canonical form is read to its end
pub canonical_read : (pars : List Par) (bytes : List ℕ) (s : AreSpelledAs pars 0 bytes)
    → (params pars).read (reader_at Big 0 bytes) ≡ Ok (s.values, reader_at Big (0 + length bytes) [])
canonical_read pars bytes s =
    let written : bytes ≡ (params pars).written Big 0 s.values = s.is ∙ sym (values_written pars s.values 0 s.typed) in
    let spelled = subst (λ (l : List ℕ). (params pars).Spelled Big 0 s.values l) (sym written) ((params_codec pars).spells Big 0 s.values (values_valid pars s.values s.typed)) in
    ap (λ (l : List ℕ). (params pars).read (reader_at Big 0 l)) (sym (append-nil bytes)) ∙ (params_codec pars).again Big 0 s.values bytes [] spelled

pub is_read_as : (pars : List Par) (bytes : List ℕ) → AreSpelledAs pars 0 bytes → IsReadAs pars bytes
is_read_as pars bytes s =
    record { values = s.values; typed = s.typed; form = s.is; read = ap whole_read (canonical_read pars bytes s) }

-- what is read of a canonical form are its values
pub values_are : (pars : List Par) (bytes : List ℕ) → AreSpelledAs pars 0 bytes → (vs : List Value) (after : Reader)
    → (params pars).read (reader_at Big 0 bytes) ≡ Ok (vs, after) → AreOf pars vs × (bytes ≡ values_at 0 vs)
values_are pars bytes s vs after e =
    let same : s.values ≡ vs = ap (λ (p : List Value × Reader). p.0) (ok_is (s.values, reader_at Big (0 + length bytes) []) (vs, after) (sym (canonical_read pars bytes s) ∙ e)) in
    (subst (AreOf pars) same s.typed, s.is ∙ ap (values_at 0) same)

pub never_refused : (pars : List Par) (bytes : List ℕ) → AreSpelledAs pars 0 bytes → (wrong : Fault CdrWhy) → (params pars).read (reader_at Big 0 bytes) ≡ Err wrong → ⊥
never_refused pars bytes s wrong e = ok_err (with_reader s.values (reader_at Big (0 + length bytes) [])) wrong (sym (canonical_read pars bytes s) ∙ e)

-- the same values in another order
pub is_reordered : (order : Order) (pars : List Par) (bytes : List ℕ) → AreSpelledAs pars 0 bytes → IsReordered order pars bytes (reordered order pars bytes)
is_reordered order pars bytes s =
    record { values = s.values; typed = s.typed; form = s.is; is = ap (spelled_again (params pars) order) (canonical_read pars bytes s) }

-- what the calls answer from it
pub reordered_known : (pars : List Par) (bytes : List ℕ) → AreSpelledAs pars 0 bytes → IsOk ((params pars).read (reader_at Big 0 bytes))
reordered_known pars bytes s = rw (canonical_read pars bytes s) refl

pub result_reordered : (order : Order) (pars : List Par) (canonical : List ℕ) (result : Result (List ℕ) NoMemory) → AreSpelledAs pars 0 canonical
    → IfOk result (λ bytes. bytes ≡ reordered order pars canonical) → IfOk result (λ bytes. IsReordered order pars canonical bytes)
result_reordered order pars canonical (Ok bytes) s e = subst (IsReordered order pars canonical) (sym e) (is_reordered order pars canonical s)
result_reordered order pars canonical (Err e) s h = tt

-- values are of their types
all_of : (vs : List Value) → All HasSpelling vs → AreOf (map type_of vs) vs
all_of [] h = tt
all_of (v ∷ vs) h = (refl, All-head HasSpelling v vs h, all_of vs (All-tail HasSpelling v vs h))

pub are_spelled : (vs : List Value) (bytes : List ℕ) → All HasSpelling vs → bytes ≡ values_at 0 vs → AreSpelledAs (map type_of vs) 0 bytes
are_spelled vs bytes h e = record { values = vs; typed = all_of vs h; is = e }

pub result_spelled : {E : Type 0} (vs : List Value) (result : Result (List ℕ) E) → All HasSpelling vs → IfOk result (λ bytes. bytes ≡ values_at 0 vs)
    → IfOk result (λ bytes. AreSpelledAs (map type_of vs) 0 bytes)
result_spelled vs (Ok bytes) h e = are_spelled vs bytes h e
result_spelled vs (Err e) h x = tt
