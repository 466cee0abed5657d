-- What a queue can be asked.
use Rattle.std.specs.Prelude.{ℕ, if◌then◌else◌, List, Option, Some, None, codes}
use Rattle.std.specs.Str.{bytes_eq}
use Rattle.ft_base.specs.declared.requests.Par.TheVariants.{U32, Octets}
use Rattle.ft_base.specs.declared.requests.Signature.{Signature}
use Rattle.servant_queue.specs.declared.operations.Operation.{Operation}
use Rattle.servant_queue.specs.declared.operations.Operation.TheVariants.{Push, Pop, Length}

-- the operation of a name
abbrev pub operation_of : List ℕ → Option Operation
operation_of name =
    if bytes_eq name (codes "push") then Some Push
    else (if bytes_eq name (codes "pop") then Some Pop
    else (if bytes_eq name (codes "length") then Some Length else None))

-- an operation's parameters, and what it gives
abbrev pub signature_of : Operation → Signature
signature_of Push = record { first = Some Octets; second = None; gives = Some U32 }
signature_of Pop = record { first = None; second = None; gives = Some Octets }
signature_of Length = record { first = None; second = None; gives = Some U32 }
