-- What a request asks: a version of the group's reference, and arguments.
use Rattle.std.specs.Prelude.{ℕ, ◌-◌, List, Option, Some, None, Result, Ok, Err}
use Rattle.ft_base.specs.Machine.{Machine}
use Rattle.ft_base.specs.declared.numbers.Version.{Version}
use Rattle.ft_base.specs.declared.requests.Signature.{Signature}
use Rattle.cdr_codec.specs.declared.bodies.Raw.{Raw}
use Rattle.ft_base.specs.Canonical.{values_at}
use Rattle.ft_base.specs.declared.values.Value.{Value}
use Rattle.cdr_codec.specs.Arguments.{body_reader, pars_of, values_read}

-- a request without a version asks for the one that the host knows
abbrev pub asked_version : ℕ → Option Version → ℕ
asked_version known None = known
asked_version known (Some version) = version.0

-- the operation that is asked for, where the servant has it
abbrev pub signature_asked : Machine → Option (List ℕ) → Option Signature
signature_asked m None = None
signature_asked m (Some op) = m.signature op

-- the canonical form of the values that are read, or the place at which reading stops, counted from the
-- body's first byte
abbrev pub args_by : Raw → Result (List Value) ℕ → Result (List ℕ) ℕ
args_by body (Ok values) = Ok (values_at 0 values)
args_by body (Err at) = Err (at - body.align)

unfoldable pub args_read : Raw → Signature → Result (List ℕ) ℕ
args_read body signature = args_by body (values_read (body_reader body) (pars_of signature))
