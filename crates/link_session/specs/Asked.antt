-- What a request's message asks of a group.
use Rattle.std.specs.Prelude.{ℕ, ◌+◌, ◌<◌, ◌^◌, List, length, Option, Some, None, Result, Ok, Err}
use Rattle.cdr_codec.specs.declared.bodies.Raw.{Raw}
use Rattle.ft_base.specs.Text.{name_of}
use Rattle.ft_contexts.specs.Finding.{contexts_of}
use Rattle.ft_contexts.specs.declared.lists.Context.{Context}
use Rattle.ft_contexts.specs.declared.lists.FtContexts.{FtContexts}
use Rattle.ft_contexts.specs.declared.faults.ContextFault.{ContextFault}
use Rattle.ft_contexts.specs.declared.faults.ContextFault.TheVariants.{Twice, Bad, NoMemory}
use Rattle.group_model.specs.declared.asking.Asked.{Asked}

-- the context at fault
abbrev pub fault_id : ContextFault → Option ℕ
fault_id (Twice id) = Some id
fault_id (Bad id place) = Some id
fault_id NoMemory = None

-- contexts of which one is at fault tell neither a version nor a key
abbrev pub asked_by : Result FtContexts ContextFault → Option (List ℕ) → Raw → Asked
asked_by (Ok found) op body =
    record { version = found.version; key = found.key; bad_context = None; op = op; body = body }
asked_by (Err why) op body =
    record { version = None; key = None; bad_context = fault_id why; op = op; body = body }

-- the operation is a name, or there is none
abbrev pub asked_of : List Context → List ℕ → Raw → Asked
asked_of contexts op body = asked_by (contexts_of contexts) (name_of op) body

-- a body whose places fit an unsigned long
pub record IsShortBody (body : Raw) : Type 0 where
  pub aligned : body.align < 8
  pub short : body.align + length body.bytes + 8 < 2 ^ 32
