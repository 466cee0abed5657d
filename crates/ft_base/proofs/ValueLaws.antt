-- Canonical forms are those of values.
use Rattle.std.proofs.Common.{◌≡◌, ◌↔◌, ℕ, ◌+◌, List, [], ◌∷◌, ◌++◌, length, refl, sym, ap, subst, ◌∙◌}
use Rattle.ft_base.specs.declared.requests.Par.{Par}
use Rattle.ft_base.specs.declared.requests.Par.TheVariants.{I64, U32, Bool as Truth, Text, Octets}
use Rattle.ft_base.specs.declared.values.Value.{Value}
use Rattle.ft_base.specs.declared.values.Value.TheVariants as values
use Rattle.ft_base.specs.Canonical.{type_of, value_at, HasSpelling, IsValueAt, AreValuesAt, values_at, AreOf, AreSpelledAs}

-- the value that the bytes spell
record IsSpelledAs (par : Par) (place : ℕ) (bytes : List ℕ) : Type 0 where
  pub value : Value
  pub typed : type_of value ≡ par
  pub spelled : HasSpelling value
  pub is : bytes ≡ value_at place value

value_of : (par : Par) (place : ℕ) (bytes : List ℕ) → IsValueAt par place bytes → IsSpelledAs par place bytes
value_of I64 place bytes h = record { value = values.I64 h.0; typed = refl; spelled = h.1; is = h.2 }
value_of U32 place bytes h = record { value = values.U32 h.0; typed = refl; spelled = h.1; is = h.2 }
value_of Truth place bytes h = record { value = values.Bool h.0; typed = refl; spelled = tt; is = h.1 }
value_of Text place bytes h = record { value = values.Text h.0; typed = refl; spelled = h.1; is = h.2 }
value_of Octets place bytes h = record { value = values.Octets h.0; typed = refl; spelled = h.1; is = h.2 }

is_value : (value : Value) (place : ℕ) → HasSpelling value → IsValueAt (type_of value) place (value_at place value)
is_value (values.I64 n) place h = (n, h, refl)
is_value (values.U32 n) place h = (n, h, refl)
is_value (values.Bool b) place h = (b, refl)
is_value (values.Text text) place h = (text, h, refl)
is_value (values.Octets octets) place h = (octets, h, refl)

spelled : (pars : List Par) (place : ℕ) (bytes : List ℕ) → AreValuesAt pars place bytes → AreSpelledAs pars place bytes
spelled [] place bytes h = record { values = []; typed = tt; is = h }
spelled (par ∷ pars) place bytes h =
    let first = value_of par place h.0 h.3 in
    let rest = spelled pars (place + length h.0) h.1 h.4 in
    let behind : h.1 ≡ values_at (place + length (value_at place first.value)) rest.values =
    rest.is ∙ ap (λ (l : List ℕ). values_at (place + length l) rest.values) first.is in
    record {
      values = first.value ∷ rest.values;
      typed = (first.typed, first.spelled, rest.typed);
      is = h.2 ∙ ap (λ (l : List ℕ). l ++ h.1) first.is ∙ ap (λ (l : List ℕ). value_at place first.value ++ l) behind;
    }

canonical : (pars : List Par) (vs : List Value) (place : ℕ) → AreOf pars vs → AreValuesAt pars place (values_at place vs)
canonical [] [] place h = refl
canonical [] (v ∷ vs) place h = absurd h
canonical (par ∷ pars) [] place h = absurd h
canonical (par ∷ pars) (v ∷ vs) place h =
    let first : IsValueAt par place (value_at place v) = subst (λ (p : Par). IsValueAt p place (value_at place v)) h.0 (is_value v place h.1) in
    (value_at place v, values_at (place + length (value_at place v)) vs, refl, first, canonical pars vs (place + length (value_at place v)) h.2)

pub canonical_forms : (pars : List Par) (place : ℕ) (bytes : List ℕ) → AreValuesAt pars place bytes ↔ AreSpelledAs pars place bytes
canonical_forms pars place bytes = (
  spelled pars place bytes,
  λ (s : AreSpelledAs pars place bytes). subst (λ (l : List ℕ). AreValuesAt pars place l) (sym s.is) (canonical pars s.values place s.typed),
)
