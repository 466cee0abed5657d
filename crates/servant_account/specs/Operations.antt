-- What an account can be asked.
use Rattle.std.specs.Prelude.{ℕ, if◌then◌else◌, List, Option, Some, None, codes}
use Rattle.std.specs.Str.{bytes_eq}
use Rattle.ft_base.specs.declared.requests.Par.TheVariants.{I64}
use Rattle.ft_base.specs.declared.requests.Signature.{Signature}
use Rattle.servant_account.specs.declared.operations.Operation.{Operation}
use Rattle.servant_account.specs.declared.operations.Operation.TheVariants.{Deposit, Withdraw, Balance}

-- the operation of a name
abbrev pub operation_of : List ℕ → Option Operation
operation_of name =
    if bytes_eq name (codes "deposit") then Some Deposit
    else (if bytes_eq name (codes "withdraw") then Some Withdraw
    else (if bytes_eq name (codes "balance") then Some Balance else None))

-- an operation's parameters, and what it gives
abbrev pub signature_of : Operation → Signature
signature_of Deposit = record { first = Some I64; second = None; gives = Some I64 }
signature_of Withdraw = record { first = Some I64; second = None; gives = Some I64 }
signature_of Balance = record { first = None; second = None; gives = Some I64 }
