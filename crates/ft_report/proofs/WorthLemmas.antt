-- A result's value is read from its canonical form.
use Rattle.std.proofs.Common.{◌≡◌, ℕ, List, [], ◌∷◌, Option, Some, None, Result, Ok, Err, refl, ap, subst, sym, ◌∙◌}
use Rattle.ft_base.specs.declared.requests.Par.{Par}
use Rattle.ft_base.specs.declared.values.Value.{Value}
use Rattle.cdr_codec.specs.Arguments.{param, whole, whole_read, IsReadAs}
use Rattle.cdr_codec.specs.Calls.{fault, field_fault, Fails}
use Rattle.cdr_codec.specs.Formats.{judge}
use Rattle.cdr_codec.specs.Reading.{Reader, Read, Fault, fault_at, reader_at, ◌>>=◌}
use Rattle.cdr_codec.specs.declared.faults.CdrFault.{CdrFault}
use Rattle.cdr_codec.specs.declared.faults.CdrWhy.{CdrWhy}
use Rattle.cdr_codec.specs.declared.faults.CdrWhy.TheVariants.{Short}
use Rattle.cdr_codec.specs.declared.faults.FieldFault.{FieldFault}
use Rattle.cdr_codec.specs.declared.faults.FieldFault.TheVariants.{Bad}
use Rattle.cdr_codec.specs.declared.orders.Order.TheVariants.{Big}
use Rattle.ft_report.specs.Worth.{printed_value, worth_read, worth_in, worth_of, IsWorth}
use Rattle.ft_report.specs.declared.outcomes.Worth.{Worth}
use Rattle.ft_report.specs.declared.outcomes.Worth.TheVariants.{Void}

-- one value alone, as the reading of a list of one
abbrev behind : Value × Reader → Read CdrWhy (Value × List Value)
behind a = Ok ((a.0, []), a.1)

abbrev listed : Read CdrWhy (Value × List Value) → Read CdrWhy (List Value)
listed reading = reading >>= λ x. judge (Some (x.0.0 ∷ x.0.1)) x.1 (fault_at Short 0)

abbrev alone : Read CdrWhy Value → Result (List Value) ℕ
alone reading = whole_read (listed (reading >>= behind))

whole_one : (rest : List ℕ) (x : List Value × Reader) (all : List Value) → whole rest x ≡ Ok all → x.0 ≡ all
whole_one [] x all e = cc
whole_one (byte ∷ more) x all e = cc

found_is : (reading : Read CdrWhy Value) (found : Value × Reader) (all : List Value) → reading ≡ Ok found → alone reading ≡ Ok all → found.0 ∷ [] ≡ all
found_is reading found all e h =
    let here : alone (Ok found) ≡ Ok all = sym (ap alone e) ∙ h in
    whole_one found.1.rest (found.0 ∷ [], found.1) all here

-- a canonical form can be read
is_not_refused : (par : Par) (bytes : List ℕ) (wrong : Fault CdrWhy) → IsReadAs (par ∷ []) bytes
    → (param par).read (reader_at Big 0 bytes) ≡ Err wrong → ⊥
is_not_refused par bytes wrong form e =
    let here : alone (Err wrong) ≡ Ok form.values = sym (ap alone e) ∙ form.read in
    cc

pub not_refused : (par : Par) (bytes : List ℕ) (r : Reader) (why : FieldFault) (wrong : CdrFault) → IsReadAs (par ∷ []) bytes
    → r ≡ reader_at Big 0 bytes → why ≡ Bad wrong → Fails (field_fault why) ((param par).read r) → ⊥
not_refused par bytes r why wrong form is bad h =
    let there : (param par).read r ≡ Err (fault wrong) = subst (λ (f : FieldFault). Fails (field_fault f) ((param par).read r)) bad h in
    is_not_refused par bytes (fault wrong) form (subst (λ (q : Reader). (param par).read q ≡ Err (fault wrong)) is there)

-- what is no value is void
pub value_lacks : (par : Par) (bytes : List ℕ) (r : Reader) (why : FieldFault) (wrong : CdrFault)
    → r ≡ reader_at Big 0 bytes → why ≡ Bad wrong → Fails (field_fault why) ((param par).read r) → Void ≡ worth_in (Some par) bytes
unfolding worth_in
value_lacks par bytes r why wrong is bad h =
    let there : (param par).read r ≡ Err (fault wrong) = subst (λ (f : FieldFault). Fails (field_fault f) ((param par).read r)) bad h in
    sym (ap worth_read (subst (λ (q : Reader). (param par).read q ≡ Err (fault wrong)) is there))

-- what is printed of the value that was read
pub value_found : (par : Par) (bytes : List ℕ) (r next : Reader) (value : Value) (printed : Worth) → r ≡ reader_at Big 0 bytes
    → (param par).read r ≡ Ok (value, next) → printed ≡ printed_value value → printed ≡ worth_in (Some par) bytes
unfolding worth_in
value_found par bytes r next value printed is e shown =
    let there : (param par).read (reader_at Big 0 bytes) ≡ Ok (value, next) = subst (λ (q : Reader). (param par).read q ≡ Ok (value, next)) is e in
    shown ∙ sym (ap worth_read there)

-- it is the value that the bytes are the canonical form of
pub value_is : (par : Par) (bytes : List ℕ) (r next : Reader) (value : Value) (printed : Worth) → IsReadAs (par ∷ []) bytes
    → r ≡ reader_at Big 0 bytes → (param par).read r ≡ Ok (value, next) → printed ≡ printed_value value → IsWorth (Some par) bytes printed
value_is par bytes r next value printed form is e shown =
    let there : (param par).read (reader_at Big 0 bytes) ≡ Ok (value, next) = subst (λ (q : Reader). (param par).read q ≡ Ok (value, next)) is e in
    record {
      values = form.values;
      typed = form.typed;
      form = form.form;
      is = shown ∙ ap worth_of (found_is ((param par).read (reader_at Big 0 bytes)) (value, next) form.values there form.read);
    }

-- an operation that gives nothing
void_in : (bytes : List ℕ) → Void ≡ worth_in None bytes
unfolding worth_in
void_in bytes = refl

pub none_in : (gives : Option Par) (bytes : List ℕ) → gives ≡ None → Void ≡ worth_in gives bytes
none_in gives bytes e = subst (λ (g : Option Par). Void ≡ worth_in g bytes) (sym e) (void_in bytes)
