-- A body is its parameters exactly where they are read up to its end.
use Rattle.std.proofs.Common.{◌≡◌, ◌↔◌, ℕ, ◌+◌, List, [], ◌∷◌, ◌++◌, Result, Ok, Err, refl, sym, ap, subst, ◌∙◌, append-nil, arith}
use Rattle.std.specs.Prelude.{IfOk}
use Rattle.ft_base.specs.Canonical.{values_at, AreValuesAt, AreSpelledAs, IsCanonical}
use Rattle.ft_base.specs.declared.requests.Par.{Par}
use Rattle.ft_base.specs.declared.values.Value.{Value}
use Rattle.cdr_codec.specs.declared.faults.CdrWhy.{CdrWhy}
use Rattle.cdr_codec.specs.declared.bodies.Raw.{Raw}
use Rattle.cdr_codec.specs.declared.bodies.ArgsFault.{ArgsFault}
use Rattle.cdr_codec.specs.declared.bodies.ArgsFault.TheVariants as faults
use Rattle.cdr_codec.specs.Reading.{Reader, reader_at, Read}
use Rattle.cdr_codec.specs.Arguments.{params, IsBody, body_reader, whole, whole_read, values_read, IsFormOf, StopsAt, IsNoBody}
use Rattle.cdr_codec.specs.Copies.{IsArgs, OnBad}
use Rattle.cdr_codec.proofs.Steps.{done, failed, with_reader, bind_ok, ok_is, ok_err, err_ok}
use Rattle.cdr_codec.proofs.ArgumentLaws.{params_codec}
use Rattle.cdr_codec.proofs.Places.{values_forward}

record IsWhole {X : Type 0} (read : Read CdrWhy X) (x : X) : Type 0 where
  pub after : Reader
  pub is : read ≡ Ok (x, after)
  pub ended : after.rest ≡ []

whole_ok : {X : Type 0} (rest : List ℕ) (x : X × Reader) (y : X) → whole rest x ≡ Ok y → (rest ≡ []) × (x.0 ≡ y)
whole_ok [] x y e = (refl, ok_is x.0 y e)
whole_ok (byte ∷ rest) x y e = absurd (err_ok y x.1.place e)

whole_read_ok : {X : Type 0} (read : Read CdrWhy X) (x : X) → whole_read read ≡ Ok x → IsWhole read x
whole_read_ok (Ok y) x e =
    let w = whole_ok y.1.rest y x e in
    record { after = y.1; is = ap (λ (z : _). done (with_reader z y.1)) w.1; ended = w.0 }
whole_read_ok (Err d) x e = absurd (err_ok x d.place e)

found_body : (body : Raw) (pars : List Par) (values : List Value) → values_read (body_reader body) pars ≡ Ok values → IsBody body pars values
found_body body pars values e =
    let w = whole_read_ok ((params pars).read (body_reader body)) values e in
    let t = (params_codec pars).found (body_reader body) (with_reader values w.after) w.is in
    let all : body.bytes ≡ t.bytes = t.moved.is ∙ ap (λ (l : List ℕ). t.bytes ++ l) w.ended ∙ append-nil t.bytes in
    subst (λ (l : List ℕ). (params pars).Spelled body.order body.align values l) (sym all) t.spelled

pub is_form : (body : Raw) (pars : List Par) (result : Result (List ℕ) ArgsFault) → IsArgs (body_reader body) pars result → IfOk result (λ args. IsFormOf args body pars)
is_form body pars (Ok args) h =
    let v = bind_ok (values_read (body_reader body) pars) (λ values. done (values_at 0 values)) args h in
    record { values = v.0; is = found_body body pars v.0 v.1; form = sym (ok_is (values_at 0 v.0) args v.2) }
is_form body pars (Err e) h = tt

-- bytes are in canonical form exactly where they are the spellings of values
abbrev pub AreForms : Type 0
AreForms = (pars : List Par) (place : ℕ) (bytes : List ℕ) → AreValuesAt pars place bytes ↔ AreSpelledAs pars place bytes

pub is_canonical : {E : Type 0} (pars : List Par) (result : Result (List ℕ) E) → AreForms → IfOk result (λ args. AreSpelledAs pars 0 args)
    → IfOk result (λ args. IsCanonical pars args)
is_canonical pars (Ok args) forms h = (forms pars 0 args).1 h
is_canonical pars (Err e) forms h = tt

read_body : (body : Raw) (pars : List Par) (values : List Value) → IsBody body pars values → values_read (body_reader body) pars ≡ Ok values
read_body body pars values h =
    let e = (params_codec pars).again body.order body.align values body.bytes [] h in
    ap (λ (l : List ℕ). values_read (reader_at body.order body.align l) pars) (sym (append-nil body.bytes)) ∙ ap whole_read e

pub is_no_body : (body : Raw) (pars : List Par) (result : Result (List ℕ) ArgsFault) → IsArgs (body_reader body) pars result → OnBad result (λ place. IsNoBody body pars)
is_no_body body pars (Ok args) h = tt
is_no_body body pars (Err (faults.Bad place)) h = λ values spelled. ok_err values h.0 (sym (read_body body pars values spelled) ∙ h.1)
is_no_body body pars (Err faults.NoMemory) h = tt

pub stops : (body : Raw) (pars : List Par) (result : Result (List ℕ) ArgsFault) → IsArgs (body_reader body) pars result → OnBad result (StopsAt body pars)
stops body pars (Ok args) h = tt
stops body pars (Err (faults.Bad place)) h =
    let forward = values_forward pars (body_reader body) h.0 h.1 in
    let same : h.0 ≡ body.align + place = omega (arith, h.2) in
    h.1 ∙ ap (λ (n : ℕ). failed {A = List Value} n) same
stops body pars (Err faults.NoMemory) h = tt
