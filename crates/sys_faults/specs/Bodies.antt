-- The body of a system exception: its repository id, its minor code, its completion status.
-- (GIOP chapter, "Reply Body", `SystemExceptionReplyBody`.)
use Rattle.std.specs.Prelude.{◌≡◌, ℕ, zero, suc, ◌+◌, ◌<◌, ◌^◌, List, [], ◌∷◌, ◌++◌, length, codes, Option, Some, None, unwrap_or, Result, Ok, Err}
use Rattle.std.specs.List.{find}
use Rattle.std.specs.Str.{bytes_eq}
use Rattle.ft_base.specs.Text.{zero_place}
use Rattle.cdr_codec.specs.declared.faults.CdrWhy.{CdrWhy}
use Rattle.cdr_codec.specs.declared.bodies.Raw.{Raw}
use Rattle.cdr_codec.specs.Reading.{Read}
use Rattle.cdr_codec.specs.Formats.{Format, number}
use Rattle.cdr_codec.specs.Structs.{Fields, field, whole, struct}
use Rattle.cdr_codec.specs.Values.{text}
use Rattle.cdr_codec.specs.Arguments.{body_reader}
use Rattle.sys_faults.specs.declared.faults.Completed.{Completed}
use Rattle.sys_faults.specs.declared.faults.Completed.TheVariants.{Yes, No, Maybe}
use Rattle.sys_faults.specs.declared.faults.SysKind.{SysKind}
use Rattle.sys_faults.specs.declared.faults.SysKind.TheVariants.{ObjectNotExist, BadContext, InvObjref, Transient, BadOperation, Marshal, ImpLimit, NoResources, PersistStore, CommFailure, NoResponse, ObjAdapter, NoMemory, Unknown}
use Rattle.sys_faults.specs.declared.faults.SysFault.{SysFault}
use Rattle.sys_faults.specs.declared.reading.SysReadFault.{SysReadFault}
use Rattle.sys_faults.specs.declared.reading.SysReadFault.TheVariants as wrongs

-- the repository id of a standard exception
abbrev pub standard_id : List ℕ → List ℕ
standard_id name = codes "IDL:omg.org/CORBA/" ++ name ++ codes ":1.0"

abbrev pub id_of : SysKind → List ℕ
id_of ObjectNotExist = standard_id (codes "OBJECT_NOT_EXIST")
id_of BadContext = standard_id (codes "BAD_CONTEXT")
id_of InvObjref = standard_id (codes "INV_OBJREF")
id_of Transient = standard_id (codes "TRANSIENT")
id_of BadOperation = standard_id (codes "BAD_OPERATION")
id_of Marshal = standard_id (codes "MARSHAL")
id_of ImpLimit = standard_id (codes "IMP_LIMIT")
id_of NoResources = standard_id (codes "NO_RESOURCES")
id_of PersistStore = standard_id (codes "PERSIST_STORE")
id_of CommFailure = standard_id (codes "COMM_FAILURE")
id_of NoResponse = standard_id (codes "NO_RESPONSE")
id_of ObjAdapter = standard_id (codes "OBJ_ADAPTER")
id_of NoMemory = standard_id (codes "NO_MEMORY")
id_of (Unknown id) = id

abbrev pub named_kinds : List SysKind
named_kinds =
    ObjectNotExist ∷ BadContext ∷ InvObjref ∷ Transient ∷ BadOperation ∷ Marshal ∷ ImpLimit ∷ NoResources ∷ PersistStore ∷ CommFailure ∷ NoResponse ∷ ObjAdapter ∷ NoMemory ∷ []

abbrev pub kind_named : List ℕ → Option SysKind
kind_named id = find (λ kind. bytes_eq id (id_of kind)) named_kinds

-- the exception with this id: a named one, or one that is known by its id alone
abbrev pub kind_of : List ℕ → SysKind
kind_of id = unwrap_or (kind_named id) (Unknown id)

abbrev pub status_of : Completed → ℕ
status_of Yes = 0
status_of No = 1
status_of Maybe = 2

abbrev pub completed_of : ℕ → Option Completed
completed_of zero = Some Yes
completed_of (suc zero) = Some No
completed_of (suc (suc zero)) = Some Maybe
completed_of (suc (suc (suc n))) = None

-- what stands in the body
pub record Told : Type 0 where
  pub id : List ℕ
  pub minor : ℕ
  pub status : ℕ

abbrev pub told_with : List ℕ → ℕ → ℕ → Told
told_with id minor status = record { id = id; minor = minor; status = status }

abbrev pub told_fields : Fields CdrWhy Told
told_fields =
    field text (λ told. told.id) (λ id.
    field (number 4) (λ told. told.minor) (λ minor.
    field (number 4) (λ told. told.status) (λ status.
    whole (told_with id minor status))))

abbrev pub told : Format CdrWhy Told
told = struct told_fields

abbrev pub told_of : SysFault → Told
told_of fault = told_with (id_of fault.kind) fault.minor (status_of fault.completed)

abbrev pub fault_if : Told → Option Completed → Result SysFault SysReadFault
fault_if x None = Err (wrongs.BadCompleted x.status)
fault_if x (Some completed) = Ok (record { kind = kind_of x.id; minor = x.minor; completed = completed })

-- the exception that this tells
abbrev pub fault_of : Told → Result SysFault SysReadFault
fault_of x = fault_if x (completed_of x.status)

abbrev pub fault_read : Read CdrWhy Told → Result SysFault SysReadFault
fault_read (Ok x) = fault_of x.0
fault_read (Err wrong) = Err (wrongs.Bad (record { why = wrong.why; place = wrong.place }))

-- the exception in a body; more may follow its last field
abbrev pub fault_in : Raw → Result SysFault SysReadFault
fault_in body = fault_read (told.read (body_reader body))

-- the body spells the exception, which is named if its id is that of a named one
pub record SpellsFault (body : Raw) (fault : SysFault) : Type 0 where
  pub bytes : List ℕ
  pub more : List ℕ
  pub is : body.bytes ≡ bytes ++ more
  pub spelled : told.Spelled body.order body.align (told_of fault) bytes
  pub named : kind_of (id_of fault.kind) ≡ fault.kind

-- what is wrong with a body; nothing for want of memory
abbrev pub wrong_body : SysReadFault → Option SysReadFault
wrong_body wrongs.NoMemory = None
wrong_body (wrongs.Bad wrong) = Some (wrongs.Bad wrong)
wrong_body (wrongs.BadCompleted status) = Some (wrongs.BadCompleted status)

-- an id that can be written, and that no named exception has
pub record IsOtherId (id : List ℕ) : Type 0 where
  pub no_zero : zero_place id ≡ None
  pub short : length id + 1 < 2 ^ 32
  pub other : kind_named id ≡ None

abbrev pub OnUnknown : SysKind → (List ℕ → Type 0) → Type 0
OnUnknown ObjectNotExist P = Unit {0}
OnUnknown BadContext P = Unit {0}
OnUnknown InvObjref P = Unit {0}
OnUnknown Transient P = Unit {0}
OnUnknown BadOperation P = Unit {0}
OnUnknown Marshal P = Unit {0}
OnUnknown ImpLimit P = Unit {0}
OnUnknown NoResources P = Unit {0}
OnUnknown PersistStore P = Unit {0}
OnUnknown CommFailure P = Unit {0}
OnUnknown NoResponse P = Unit {0}
OnUnknown ObjAdapter P = Unit {0}
OnUnknown NoMemory P = Unit {0}
OnUnknown (Unknown id) P = P id
