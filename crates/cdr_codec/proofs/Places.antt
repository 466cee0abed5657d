-- Reading never goes back: a fault has the place of the reader, or a later one.
use Rattle.std.proofs.Common.{◌≡◌, ℕ, ◌+◌, ◌≤◌, List, [], ◌∷◌, ◌++◌, length, Option, Some, Ok, Err, refl, sym, ap, ◌∙◌, arith, inl, inr}
use Rattle.ft_base.specs.Canonical.{padding}
use Rattle.std.specs.Int.{w64, cast_signed, cast_unsigned}
use Rattle.ft_base.specs.declared.requests.Par.{Par}
use Rattle.ft_base.specs.declared.values.Value.{Value}
use Rattle.ft_base.specs.declared.values.Value.TheVariants as values
use Rattle.ft_base.specs.declared.requests.Par.TheVariants.{I64, U32, Bool as Truth, Text, Octets}
use Rattle.cdr_codec.specs.declared.faults.CdrWhy.{CdrWhy}
use Rattle.cdr_codec.specs.declared.faults.CdrWhy.TheVariants.{Short, BadBool, BadString}
use Rattle.cdr_codec.specs.Reading.{Reader, Fault, fault_at, Read, start, taken, number_in, digits_at}
use Rattle.cdr_codec.specs.Formats.{Format, number, octets, followed, judge, judged}
use Rattle.cdr_codec.specs.Laws.{IsCodec}
use Rattle.cdr_codec.specs.Values.{bool_of, bool_sign, boolean, text_of, text, signed}
use Rattle.cdr_codec.specs.Arguments.{signed_of, number_of, bool_in, bytes_of, param, first_and_rest, params, whole, whole_read, values_read}
use Rattle.cdr_codec.proofs.Steps.{with_reader, bind_err, ok_err, err_is, taken_cases}
use Rattle.cdr_codec.proofs.Codecs.{judge_err, behind, pair}
use Rattle.cdr_codec.proofs.ArgumentLaws.{param_codec, params_codec}

record IsForward {W X : Type 0} (f : Format W X) : Type 0 where
  pub faults : (r : Reader) (e : Fault W) → f.read r ≡ Err e → r.place ≤ e.place

taken_place : (skip count place : ℕ) (r : Reader) (d : Fault CdrWhy) → taken skip count place r ≡ Err d → d.place ≡ place
taken_place skip count place r d e =
    elim (taken_cases skip count place r) [
      | inl short ↦ ap (λ (x : Fault CdrWhy). x.place) (err_is d (fault_at Short place) (sym e ∙ short))
      | inr found ↦ absurd (ok_err found.0 d (sym found.1 ∙ e))
    ]

number_forward : (size : ℕ) → IsForward (number size)
number_forward size = record {
  faults = λ r e wrong. elim (bind_err (digits_at size r) (λ d. Ok (number_in r.order size d.0, d.1)) e wrong) [
    | inl short ↦ omega (arith, taken_place (padding r.place size) size (start size r.place) r e short)
    | inr went ↦ absurd (ok_err (with_reader (number_in r.order size went.0.0) went.0.1) e went.2)
  ];
}

octets_forward : IsForward octets
octets_forward = record {
  faults = λ r e wrong. elim (bind_err ((number 4).read r) (λ n. taken 0 n.0 (start 4 r.place) n.1) e wrong) [
    | inl short ↦ (number_forward 4).faults r e short
    | inr went ↦ omega (arith, taken_place 0 went.0.0 (start 4 r.place) went.0.1 e went.2)
  ];
}

judged_forward : {W X Y : Type 0} (f : Format W X) (size : ℕ) (why : W) (meaning : X → Option Y) (sign : Y → X) → IsForward f
    → IsForward (judged f size why meaning sign)
judged_forward {W = W} f size why meaning sign law = record {
  faults = λ r e wrong. elim (bind_err (f.read r) (λ x. judge (meaning x.0) x.1 (fault_at why (start size r.place))) e wrong) [
    | inl first ↦ law.faults r e first
    | inr went ↦
        let j = judge_err (meaning went.0.0) went.0.1 (fault_at why (start size r.place)) e went.2 in
        let place : start size r.place ≡ e.place = ap (λ (x : Fault W). x.place) j.1 in
        omega arith
  ];
}

followed_forward : {W X Y : Type 0} (short : W) (f : Format W X) (g : X → Format W Y) → IsCodec short f → IsForward f → ((a : X) → IsForward (g a))
    → IsForward (followed f g)
followed_forward short f g codec law laws = record {
  faults = λ r e wrong. elim (bind_err (f.read r) (behind g) e wrong) [
    | inl first ↦ law.faults r e first
    | inr went ↦
        let t = codec.found r went.0 went.1 in
        let place : went.0.1.place ≡ r.place + length t.bytes = ap (λ (x : Reader). x.place) t.moved.at_end in
        elim (bind_err ((g went.0.0).read went.0.1) (λ b. Ok ((went.0.0, b.0), b.1)) e went.2) [
          | inl second ↦ let later = (laws went.0.0).faults went.0.1 e second in omega arith
          | inr both ↦ absurd (ok_err (with_reader (pair went.0.0 both.0.0) both.0.1) e both.2)
        ]
  ];
}

param_forward : (par : Par) → IsForward (param par)
param_forward I64 = judged_forward (signed w64) 8 Short (λ n. Some (values.I64 n)) signed_of (judged_forward (number 8) 8 Short (λ n. Some (cast_signed w64 n)) (cast_unsigned w64) (number_forward 8))
param_forward U32 = judged_forward (number 4) 4 Short (λ n. Some (values.U32 n)) number_of (number_forward 4)
param_forward Truth = judged_forward boolean 1 Short (λ b. Some (values.Bool b)) bool_in (judged_forward (number 1) 1 BadBool bool_of bool_sign (number_forward 1))
param_forward Text = judged_forward text 4 Short (λ t. Some (values.Text t)) bytes_of (judged_forward octets 4 BadString text_of (λ t. t ++ 0 ∷ []) octets_forward)
param_forward Octets = judged_forward octets 4 Short (λ xs. Some (values.Octets xs)) bytes_of octets_forward

params_forward : (pars : List Par) → IsForward (params pars)
params_forward [] = record { faults = λ r e wrong. absurd (ok_err (with_reader [] r) e wrong) }
params_forward (par ∷ pars) =
    judged_forward (followed (param par) (λ v. params pars)) 1 Short (λ p. Some (p.0 ∷ p.1)) first_and_rest
    (followed_forward Short (param par) (λ v. params pars) (param_codec par) (param_forward par) (λ v. params_forward pars))

whole_err : {X : Type 0} (rest : List ℕ) (x : X × Reader) (at : ℕ) → whole rest x ≡ Err at → x.1.place ≡ at
whole_err [] x at e = absurd (ok_err x.0 at e)
whole_err (byte ∷ rest) x at e = err_is x.1.place at e

stop_forward : (pars : List Par) (r : Reader) (q : Read CdrWhy (List Value)) (at : ℕ) → (params pars).read r ≡ q → whole_read q ≡ Err at → r.place ≤ at
stop_forward pars r (Ok x) at e stops =
    let t = (params_codec pars).found r x e in
    let place : x.1.place ≡ r.place + length t.bytes = ap (λ (s : Reader). s.place) t.moved.at_end in
    let end = whole_err x.1.rest x at stops in
    omega arith
stop_forward pars r (Err d) at e stops =
    let place : d.place ≡ at = err_is d.place at stops in
    let later = (params_forward pars).faults r d e in
    omega arith

-- reading stops at the reader's place or behind it
pub values_forward : (pars : List Par) (r : Reader) (at : ℕ) → values_read r pars ≡ Err at → r.place ≤ at
values_forward pars r at stops = stop_forward pars r ((params pars).read r) at refl stops
