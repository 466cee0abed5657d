-- The version and the key that a list of service contexts tells, and the order of refusals.
use Rattle.std.specs.Prelude.{◌≡◌, ℕ, ◌+◌, ◌==◌, ◌<◌, ◌^◌, Bool, false, nat_lt, if◌then◌else◌, List, length, Option, Some, None, Result, Ok, Err}
use Rattle.std.specs.List.{filter}
use Rattle.cdr_codec.specs.declared.faults.CdrWhy.{CdrWhy}
use Rattle.cdr_codec.specs.declared.faults.FieldFault.{FieldFault}
use Rattle.cdr_codec.specs.declared.faults.FieldFault.TheVariants as fields
use Rattle.cdr_codec.specs.Reading.{Fault, ◌>>=◌}
use Rattle.cdr_codec.specs.Formats.{Format}
use Rattle.cdr_codec.specs.Encapsulations.{Encapsulates, held}
use Rattle.cdr_codec.specs.Tagged.{content_of}
use Rattle.ft_contexts.specs.declared.lists.TheConstants.{FT_GROUP_VERSION, FT_REQUEST}
use Rattle.ft_contexts.specs.declared.lists.Context.{Context}
use Rattle.ft_contexts.specs.declared.lists.FtContexts.{FtContexts}
use Rattle.ft_contexts.specs.declared.faults.ContextFault.{ContextFault}
use Rattle.ft_contexts.specs.declared.faults.ContextFault.TheVariants.{Twice, Bad, NoMemory}
use Rattle.ft_contexts.specs.Contents.{group_version, request}
use Rattle.ft_contexts.specs.Lists.{context_parts}

-- a content whose places fit an unsigned long
abbrev pub IsShort : Context → Type 0
IsShort context = length context.content + 8 < 2 ^ 32

abbrev pub has_id : ℕ → Context → Bool
has_id id context = context.id == id

abbrev pub with_id : ℕ → List Context → List Context
with_id id contexts = filter (has_id id) contexts

abbrev pub stands_twice : ℕ → List Context → Bool
stands_twice id contexts = nat_lt 1 (length (with_id id contexts))

abbrev pub context_fault : ℕ → FieldFault → ContextFault
context_fault id (fields.Bad wrong) = Bad id wrong.place
context_fault id fields.NoMemory = NoMemory

abbrev pub or_bad : {X : Type 0} → ℕ → Result X (Fault CdrWhy) → Result (Option X) ContextFault
or_bad id (Ok x) = Ok (Some x)
or_bad id (Err wrong) = Err (Bad id wrong.place)

abbrev pub found_in : {X : Type 0} → Format CdrWhy X → ℕ → Option (List ℕ) → Result (Option X) ContextFault
found_in f id None = Ok None
found_in f id (Some piece) = or_bad id (held f piece)

-- the value in the context with this id, if that context is there
abbrev pub found_by : {X : Type 0} → Format CdrWhy X → ℕ → List Context → Result (Option X) ContextFault
found_by f id contexts = found_in f id (content_of context_parts id contexts)

-- neither of the two may stand twice; then each is read that is there
abbrev pub contexts_of : List Context → Result FtContexts ContextFault
contexts_of contexts =
    if stands_twice FT_GROUP_VERSION contexts then Err (Twice FT_GROUP_VERSION)
    else (if stands_twice FT_REQUEST contexts then Err (Twice FT_REQUEST)
    else (found_by group_version FT_GROUP_VERSION contexts >>= λ version. found_by request FT_REQUEST contexts >>= λ key.
    Ok (record { version = version; key = key })))

-- a content is the encapsulation of this value; where there is none, there is no value
abbrev pub IsFoundIn : {X : Type 0} → Format CdrWhy X → Option (List ℕ) → Option X → Type 0
IsFoundIn f None None = Unit {0}
IsFoundIn f None (Some x) = ⊥
IsFoundIn f (Some piece) None = ⊥
IsFoundIn f (Some piece) (Some x) = Encapsulates f.Spelled piece x

-- each of the two stands at most once, and encapsulates the value
pub record AreFound (contexts : List Context) (found : FtContexts) : Type 0 where
  pub one_version : stands_twice FT_GROUP_VERSION contexts ≡ false
  pub one_key : stands_twice FT_REQUEST contexts ≡ false
  pub version : IsFoundIn group_version (content_of context_parts FT_GROUP_VERSION contexts) found.version
  pub key : IsFoundIn request (content_of context_parts FT_REQUEST contexts) found.key

-- what is wrong with contexts; nothing for want of memory
abbrev pub wrong_contexts : ContextFault → Option ContextFault
wrong_contexts NoMemory = None
wrong_contexts (Twice id) = Some (Twice id)
wrong_contexts (Bad id place) = Some (Bad id place)
