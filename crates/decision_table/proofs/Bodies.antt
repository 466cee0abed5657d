-- What is read of a body: its arguments, or a place.
use Rattle.std.proofs.Common.{◌≡◌, ℕ, List, sym, ap, ◌∙◌}
use Rattle.std.specs.Prelude.{Result, Ok, Err}
use Rattle.ft_base.specs.Canonical.{values_at}
use Rattle.ft_base.specs.declared.requests.Signature.{Signature}
use Rattle.ft_base.specs.declared.values.Value.{Value}
use Rattle.cdr_codec.specs.Arguments.{pars_of, body_reader, values_read}
use Rattle.cdr_codec.specs.Copies.{IsArgs}
use Rattle.cdr_codec.specs.Reading.{◌>>=◌}
use Rattle.cdr_codec.specs.declared.bodies.ArgsFault.TheVariants as faults
use Rattle.cdr_codec.specs.declared.bodies.Raw.{Raw}
use Rattle.group_model.specs.Asking.{args_by, args_read}

values_ok : (body : Raw) (r : Result (List Value) ℕ) (args : List ℕ) → (r >>= λ values. Ok (values_at 0 values)) ≡ Ok args → args_by body r ≡ Ok args
values_ok body (Ok values) args is = is
values_ok body (Err at) args is = absurd cc

pub read_ok : (body : Raw) (signature : Signature) (args : List ℕ) → IsArgs (body_reader body) (pars_of signature) (Ok args) → args_read body signature ≡ Ok args
unfolding args_read
read_ok body signature args is = values_ok body (values_read (body_reader body) (pars_of signature)) args is

pub read_bad : (body : Raw) (signature : Signature) (place : ℕ) → IsArgs (body_reader body) (pars_of signature) (Err (faults.Bad place)) →
    args_read body signature ≡ Err place
unfolding args_read
read_bad body signature place is = ap (args_by body) is.1 ∙ sym (ap (λ (n : ℕ). Err n) is.2)
