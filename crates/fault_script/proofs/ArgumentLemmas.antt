-- Arguments are values of their parameters, which have a canonical form.
use Rattle.std.proofs.Common.{◌≡◌, ℕ, ◌+◌, ◌<◌, ◌^◌, ◌&&◌, ◌∙◌, Bool, true, false, List, [], ◌∷◌, ◌++◌, length, append_assoc, append-nil, map, Option, Some, None, arith, nat_lt, sym, ap, subst, cond, refl}
use Rattle.std.specs.Prelude.{ℤ, pos, negsuc, option_and_then, is_none, codes}
use Rattle.std.specs.Int.{w64}
use Rattle.std.specs.Int.RustNames.{FitsSigned}
use Rattle.std.specs.List.{All}
use Rattle.std.specs.Result.{result_ok}
use Rattle.std.proofs.lemmas.List.Elements.{All-nil, All-cons}
use Rattle.std.specs.Str.{bytes_eq}
use Rattle.std.proofs.lemmas.Bool.{and_parts, ltb-true}
use Rattle.hex.specs.Hex.{decode_of}
use Rattle.ft_base.specs.Text.{zero_place}
use Rattle.ft_base.specs.Canonical.{type_of, HasSpelling, AreOf}
use Rattle.ft_base.specs.declared.requests.Par.{Par}
use Rattle.ft_base.specs.declared.requests.Par.TheVariants.{I64, U32, Bool as Boolean, Text, Octets}
use Rattle.ft_base.specs.declared.values.Value.{Value}
use Rattle.ft_base.specs.declared.values.Value.TheVariants as values
use Rattle.fault_script.specs.Numbers.{number, decimal, is_within, within, signed_64, below, unsigned_32}
use Rattle.fault_script.proofs.StepLemmas.{map_value, chain_value, if_value}
use Rattle.fault_script.specs.Arguments.{ArgumentState, text_of, countable, octets_of, argument, argument_from, arguments}

bits_fit : (value : ℤ) → is_within (2 ^ 63) value ≡ true → FitsSigned w64 value
bits_fit (pos n) e = let small = ltb-true n (2 ^ 63) e in omega arith
bits_fit (negsuc n) e = let small = ltb-true n (2 ^ 63) e in omega arith

i64_fits : (word : List ℕ) (value : ℤ) → signed_64 word ≡ Some value → FitsSigned w64 value
i64_fits word value e =
    let read = chain_value (within (2 ^ 63)) (decimal word) value e in
    let ranged = if_value (is_within (2 ^ 63) read.0) read.0 value read.2 in
    subst (λ (z : ℤ). FitsSigned w64 z) ranged.1 (bits_fit read.0 ranged.0)

u32_fits : (word : List ℕ) (value : ℕ) → unsigned_32 word ≡ Some value → value < 2 ^ 32
u32_fits word value e =
    let read = chain_value (below (2 ^ 32)) (number word) value e in
    let ranged = if_value (nat_lt read.0 (2 ^ 32)) read.0 value read.2 in
    subst (λ (n : ℕ). n < 2 ^ 32) ranged.1 (ltb-true read.0 (2 ^ 32) ranged.0)

no_place : (place : Option ℕ) → is_none place ≡ true → place ≡ None
no_place None e = refl
no_place (Some n) e = cc

text_fits : (word text : List ℕ) → text_of word ≡ Some text → (zero_place text ≡ None) × (length text + 1 < 2 ^ 32)
text_fits word text e =
    let read = if_value (nat_lt (length word + 1) (2 ^ 32) && is_none (zero_place word)) word text e in
    let parts = and_parts (nat_lt (length word + 1) (2 ^ 32)) (is_none (zero_place word)) read.0 in
    subst (λ (t : List ℕ). (zero_place t ≡ None) × (length t + 1 < 2 ^ 32)) read.1
    (no_place (zero_place word) parts.1, ltb-true (length word + 1) (2 ^ 32) parts.0)

counted_fits : (octets value : List ℕ) → countable octets ≡ Some value → length value < 2 ^ 32
counted_fits octets value e =
    let read = if_value (nat_lt (length octets) (2 ^ 32)) octets value e in
    subst (λ (o : List ℕ). length o < 2 ^ 32) read.1 (ltb-true (length octets) (2 ^ 32) read.0)

octets_case : (b : Bool) (word value : List ℕ) → cond b (Some []) (option_and_then countable (result_ok (decode_of word))) ≡ Some value → length value < 2 ^ 32
octets_case true word value e = let same : [] ≡ value = cc in subst (λ (o : List ℕ). length o < 2 ^ 32) same (omega arith)
octets_case false word value e = let read = chain_value countable (result_ok (decode_of word)) value e in counted_fits read.0 value read.2

-- what a word is, is a value of the parameter's type that has a spelling
abbrev IsOf : Par → Value → Type 0
IsOf par value = (type_of value ≡ par) × HasSpelling value

argument_is : (par : Par) (word : List ℕ) (value : Value) → argument par word ≡ Some value → IsOf par value
argument_is I64 word value e =
    let read = map_value (λ (n : ℤ). values.I64 n) (signed_64 word) value e in
    subst (λ (v : Value). IsOf I64 v) read.2 (refl, i64_fits word read.0 read.1)
argument_is U32 word value e =
    let read = map_value (λ (n : ℕ). values.U32 n) (unsigned_32 word) value e in
    subst (λ (v : Value). IsOf U32 v) read.2 (refl, u32_fits word read.0 read.1)
argument_is Boolean word value e = cc
argument_is Text word value e =
    let read = map_value (λ (t : List ℕ). values.Text t) (text_of word) value e in
    subst (λ (v : Value). IsOf Text v) read.2 (refl, text_fits word read.0 read.1)
argument_is Octets word value e =
    let read = map_value (λ (o : List ℕ). values.Octets o) (octets_of word) value e in
    subst (λ (v : Value). IsOf Octets v) read.2 (refl, octets_case (bytes_eq word (codes "-")) word read.0 read.1)

-- some values more, of these types
abbrev Appends : List Par → ArgumentState → ArgumentState → Type 0
Appends pars given after = (more : List Value) × (after.values ≡ given.values ++ more) × AreOf pars more

argument_appends : (par : Par) (before : List Value) (rest : List (List ℕ)) (mid : ArgumentState) → argument_from par before rest ≡ Some mid
    → (value : Value) × (mid.values ≡ before ++ value ∷ []) × IsOf par value
argument_appends par before [] mid e = cc
argument_appends par before (word ∷ rest) mid e =
    let read = map_value (λ (v : Value). let given : ArgumentState = record { values = before ++ v ∷ []; rest = rest } in given) (argument par word) mid e in
    (read.0, ap (λ (g : ArgumentState). g.values) (sym read.2), argument_is par word read.0 read.1)

arguments_append : (pars : List Par) (given after : ArgumentState) → arguments pars given ≡ Some after → Appends pars given after
arguments_append [] given after e =
    let same : given ≡ after = cc in
    ([], ap (λ (g : ArgumentState). g.values) (sym same) ∙ sym (append-nil given.values), tt)
arguments_append (par ∷ pars) given after e =
    let step = chain_value (arguments pars) (argument_from par given.values given.rest) after e in
    let here = argument_appends par given.values given.rest step.0 step.1 in
    let there = arguments_append pars step.0 after step.2 in (
      here.0 ∷ there.0,
      there.1 ∙ ap (λ (vs : List Value). vs ++ there.0) here.1 ∙ append_assoc given.values (here.0 ∷ []) there.0,
      (here.2.0, here.2.1, there.2),
    )

-- arguments that are taken from none on are of the types
pub arguments_typed : (pars : List Par) (words rest : List (List ℕ)) (none all : List Value) → none ≡ []
    → arguments pars (record { values = none; rest = words }) ≡ Some (record { values = all; rest = rest }) → AreOf pars all
arguments_typed pars words rest none all empty e =
    let more = arguments_append pars (record { values = none; rest = words }) (record { values = all; rest = rest }) e in
    subst (λ (vs : List Value). AreOf pars vs) (sym (more.1 ∙ ap (λ (vs : List Value). vs ++ more.0) empty)) more.2

-- values of some types have a spelling each, and are of these types one by one
pub all_spelled : (pars : List Par) (all : List Value) → AreOf pars all → All HasSpelling all
all_spelled [] [] h = All-nil HasSpelling
all_spelled [] (value ∷ rest) h = absurd h
all_spelled (par ∷ pars) [] h = absurd h
all_spelled (par ∷ pars) (value ∷ rest) h = All-cons HasSpelling value rest h.1 (all_spelled pars rest h.2)

pub types_are : (pars : List Par) (all : List Value) → AreOf pars all → map type_of all ≡ pars
types_are [] [] h = refl
types_are [] (value ∷ rest) h = absurd h
types_are (par ∷ pars) [] h = absurd h
types_are (par ∷ pars) (value ∷ rest) h = rw h.0 (ap (λ (ps : List Par). par ∷ ps) (types_are pars rest h.2))
