-- Parameters copied one behind the other.
use Rattle.std.proofs.Common.{◌≡◌, List, [], ◌∷◌, ◌++◌, Some, Result, Ok, Err, refl, sym, ap, ◌∙◌, inl, inr}
use Rattle.ft_base.specs.declared.requests.Par.{Par}
use Rattle.ft_base.specs.declared.values.Value.{Value}
use Rattle.cdr_codec.specs.declared.faults.CdrWhy.{CdrWhy}
use Rattle.cdr_codec.specs.declared.faults.CdrWhy.TheVariants.{Short}
use Rattle.cdr_codec.specs.declared.faults.FieldFault.{FieldFault}
use Rattle.cdr_codec.specs.declared.faults.FieldFault.TheVariants as copies
use Rattle.cdr_codec.specs.Reading.{Reader, Fault, fault_at, Read, ◌>>=◌, start}
use Rattle.cdr_codec.specs.Formats.{Format, judge}
use Rattle.cdr_codec.specs.Calls.{Writer, appended, fault}
use Rattle.cdr_codec.specs.Arguments.{param, params}
use Rattle.cdr_codec.specs.Copies.{copied, Copies}
use Rattle.cdr_codec.proofs.Steps.{bind_err, bind_goes, bind_stops, ok_err}
use Rattle.cdr_codec.proofs.Writing.{pair_written, nothing_written}

bind_assoc : {A B C E : Type 0} (r : Result A E) (f : A → Result B E) (g : B → Result C E) → ((r >>= f) >>= g) ≡ (r >>= λ x. f x >>= g)
bind_assoc (Ok x) f g = refl
bind_assoc (Err e) f g = refl

bind_same : {A B E : Type 0} (r : Result A E) (f g : A → Result B E) → ((x : A) → f x ≡ g x) → (r >>= f) ≡ (r >>= g)
bind_same (Ok x) f g h = h x
bind_same (Err e) f g h = refl

copied_err : {X : Type 0} (f : Format CdrWhy X) (r : Reader) (w : Writer) (e : Fault CdrWhy) → copied f r w ≡ Err e → f.read r ≡ Err e
copied_err f r w e h = elim (bind_err (f.read r) (λ v. Ok (appended f.written v.0 w, v.1)) e h) [
  | inl short ↦ short
  | inr went ↦ absurd (ok_err _ e went.2)
]

-- the next copy, behind one
abbrev then : {X : Type 0} → Format CdrWhy X → Writer × Reader → Read CdrWhy Writer
then f s = copied f s.1 s.0

abbrev paired : Value × Reader → List Value × Reader → Read CdrWhy (Value × List Value)
paired a b = Ok ((a.0, b.0), b.1)

abbrev consed : Fault CdrWhy → (Value × List Value) × Reader → Read CdrWhy (List Value)
consed wrong x = judge (Some (x.0.0 ∷ x.0.1)) x.1 wrong

abbrev put : {X : Type 0} → Format CdrWhy X → Writer → X × Reader → Read CdrWhy Writer
put f w v = Ok (appended f.written v.0 w, v.1)

abbrev at_reader : Reader → Writer → Read CdrWhy Writer
at_reader r w = Ok (w, r)

rest_copied : (par : Par) (pars : List Par) (w : Writer) (wrong : Fault CdrWhy) (a : Value × Reader) (q : Read CdrWhy (List Value))
    → (((q >>= paired a) >>= consed wrong) >>= put (params (par ∷ pars)) w) ≡ (q >>= put (params pars) (appended (param par).written a.0 w))
rest_copied par pars w wrong a (Ok b) = ap (at_reader b.1) (pair_written (param par).written (λ v. (params pars).written) (a.0, b.0) w)
rest_copied par pars w wrong a (Err e) = refl

first_copied : (par : Par) (pars : List Par) (w : Writer) (wrong : Fault CdrWhy) (q : Read CdrWhy Value)
    → (((q >>= λ a. (params pars).read a.1 >>= paired a) >>= consed wrong) >>= put (params (par ∷ pars)) w) ≡ ((q >>= put (param par) w) >>= then (params pars))
first_copied par pars w wrong (Ok a) = rest_copied par pars w wrong a ((params pars).read a.1)
first_copied par pars w wrong (Err e) = refl

copied_cons : (par : Par) (pars : List Par) (r : Reader) (w : Writer) → copied (params (par ∷ pars)) r w ≡ (copied (param par) r w >>= then (params pars))
copied_cons par pars r w = first_copied par pars w (fault_at Short (start 1 r.place)) ((param par).read r)

pub copied_append : (pars more : List Par) (r : Reader) (w : Writer) → copied (params (pars ++ more)) r w ≡ (copied (params pars) r w >>= then (params more))
copied_append [] more r w = ap (copied (params more) r) (sym (nothing_written w))
copied_append (par ∷ pars) more r w =
    copied_cons par (pars ++ more) r w
    ∙ bind_same (copied (param par) r w) (then (params (pars ++ more))) (λ s. then (params pars) s >>= then (params more)) (λ s. copied_append pars more s.1 s.0)
    ∙ sym (bind_assoc (copied (param par) r w) (then (params pars)) (then (params more)))
    ∙ ap (λ (q : Read CdrWhy Writer). q >>= then (params more)) (sym (copied_cons par pars r w))

-- a copy behind another
pub both_copied : {Y : Type 0} (pars more : List Par) (r s t : Reader) (w v u : Writer) (result : Result Y FieldFault)
    → copied (params pars) r w ≡ Ok (v, s) → Copies (params more) result s t v u → Copies (params (pars ++ more)) result r t w u
both_copied pars more r s t w v u (Ok y) first second =
    copied_append pars more r w ∙ bind_goes (copied (params pars) r w) (then (params more)) _ _ first second
both_copied pars more r s t w v u (Err (copies.Bad e)) first second =
    copied_err (params (pars ++ more)) r w (fault e)
    (copied_append pars more r w ∙ bind_goes (copied (params pars) r w) (then (params more)) _ _ first (bind_stops ((params more).read s) (put (params more) v) (fault e) second))
both_copied pars more r s t w v u (Err copies.NoMemory) first second = tt
