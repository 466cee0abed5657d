-- What a store can be asked.
use Rattle.std.specs.Prelude.{ℕ, if◌then◌else◌, List, Option, Some, None, codes}
use Rattle.std.specs.Str.{bytes_eq}
use Rattle.ft_base.specs.declared.requests.Par.TheVariants.{U32, Bool as Truth, Text, Octets}
use Rattle.ft_base.specs.declared.requests.Signature.{Signature}
use Rattle.servant_store.specs.declared.operations.Operation.{Operation}
use Rattle.servant_store.specs.declared.operations.Operation.TheVariants.{Put, Get, Remove, Size}

-- the operation of a name
abbrev pub operation_of : List ℕ → Option Operation
operation_of name =
    if bytes_eq name (codes "put") then Some Put
    else (if bytes_eq name (codes "get") then Some Get
    else (if bytes_eq name (codes "remove") then Some Remove
    else (if bytes_eq name (codes "size") then Some Size else None)))

-- an operation's parameters, and what it gives
abbrev pub signature_of : Operation → Signature
signature_of Put = record { first = Some Text; second = Some Octets; gives = Some Truth }
signature_of Get = record { first = Some Text; second = None; gives = Some Octets }
signature_of Remove = record { first = Some Text; second = None; gives = None }
signature_of Size = record { first = None; second = None; gives = Some U32 }
