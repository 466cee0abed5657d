-- How long what is written is: in either byte order the same.
use Rattle.std.proofs.Common.{◌≡◌, ℕ, ◌+◌, List, [], ◌∷◌, ◌++◌, length, replicate, IfOk, Result, Ok, Err, refl, sym, ap, ◌∙◌, length-append, arith}
use Rattle.std.proofs.lemmas.List.{length-replicate}
use Rattle.byteorder.specs.Numbers.{length-bytes_high_first, length-bytes_low_first}
use Rattle.ft_base.specs.Canonical.{padding, AreSpelledAs}
use Rattle.ft_base.specs.declared.memory.NoMemory.{NoMemory}
use Rattle.std.specs.Int.{w64, cast_unsigned}
use Rattle.ft_base.specs.declared.requests.Par.{Par}
use Rattle.ft_base.specs.declared.values.Value.{Value}
use Rattle.ft_base.specs.declared.requests.Par.TheVariants.{I64, U32, Bool as Truth, Text, Octets}
use Rattle.cdr_codec.specs.declared.orders.Order.{Order}
use Rattle.cdr_codec.specs.declared.orders.Order.TheVariants.{Big, Little}
use Rattle.cdr_codec.specs.Reading.{digits_in}
use Rattle.cdr_codec.proofs.ArgumentLaws.{values_written, is_reordered}
use Rattle.cdr_codec.specs.Formats.{written_number, octets}
use Rattle.cdr_codec.specs.Values.{bool_sign}
use Rattle.cdr_codec.specs.Arguments.{signed_of, number_of, bool_in, bytes_of, param, first_and_rest, params, reordered, IsReordered}

length-digits : (order : Order) (size n : ℕ) → length (digits_in order size n) ≡ size
length-digits Big size n = length-bytes_high_first size n
length-digits Little size n = length-bytes_low_first 0 size n

pub number_length : (size : ℕ) (order : Order) (place n : ℕ) → length (written_number size order place n) ≡ padding place size + size
number_length size order place n =
    omega (arith, length-append (replicate (padding place size) 0) (digits_in order size n), length-replicate {A = ℕ} (padding place size) 0, length-digits order size n)

octets_length : (order : Order) (place : ℕ) (xs : List ℕ) → length (octets.written order place xs) ≡ padding place 4 + 4 + length xs
octets_length order place xs = omega (arith, length-append (written_number 4 order place (length xs)) xs, number_length 4 order place (length xs))

-- the byte order doesn't count
number_same : (size : ℕ) (one other : Order) (place n : ℕ) → length (written_number size one place n) ≡ length (written_number size other place n)
number_same size one other place n = number_length size one place n ∙ sym (number_length size other place n)

octets_same : (one other : Order) (place : ℕ) (xs : List ℕ) → length (octets.written one place xs) ≡ length (octets.written other place xs)
octets_same one other place xs = octets_length one place xs ∙ sym (octets_length other place xs)

param_same : (par : Par) (one other : Order) (place : ℕ) (v : Value) → length ((param par).written one place v) ≡ length ((param par).written other place v)
param_same I64 one other place v = number_same 8 one other place (cast_unsigned w64 (signed_of v))
param_same U32 one other place v = number_same 4 one other place (number_of v)
param_same Truth one other place v = number_same 1 one other place (bool_sign (bool_in v))
param_same Text one other place v = octets_same one other place (bytes_of v ++ 0 ∷ [])
param_same Octets one other place v = octets_same one other place (bytes_of v)

pub params_same : (pars : List Par) (one other : Order) (place : ℕ) (vs : List Value)
    → length ((params pars).written one place vs) ≡ length ((params pars).written other place vs)
params_same [] one other place vs = refl
params_same (par ∷ pars) one other place vs =
    let v = (first_and_rest vs).0 in
    let rest = (first_and_rest vs).1 in
    let first = (param par).written one place v in
    let second = (param par).written other place v in
    let first-same : length first ≡ length second = param_same par one other place v in
    let rest-same : length ((params pars).written one (place + length first) rest) ≡ length ((params pars).written other (place + length second) rest) =
    params_same pars one other (place + length first) rest
    ∙ ap (λ (n : ℕ). length ((params pars).written other (place + n) rest)) first-same in
    omega (
      arith,
      length-append first ((params pars).written one (place + length first) rest),
      length-append second ((params pars).written other (place + length second) rest),
    )

pub reordered_sized : (order : Order) (pars : List Par) (canonical bytes : List ℕ) → IsReordered order pars canonical bytes → length bytes ≡ length canonical
reordered_sized order pars canonical bytes s =
    ap length s.is ∙ params_same pars order Big 0 s.values ∙ ap length (values_written pars s.values 0 s.typed) ∙ sym (ap length s.form)

pub result_sized : (order : Order) (pars : List Par) (canonical : List ℕ) (result : Result (List ℕ) NoMemory) → AreSpelledAs pars 0 canonical
    → IfOk result (λ bytes. bytes ≡ reordered order pars canonical) → IfOk result (λ bytes. length bytes ≡ length canonical)
result_sized order pars canonical (Ok bytes) s e = ap length e ∙ reordered_sized order pars canonical (reordered order pars canonical) (is_reordered order pars canonical s)
result_sized order pars canonical (Err e) s h = tt
