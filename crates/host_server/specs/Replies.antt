-- What a request is answered, as a Reply. (GIOP chapter, "Reply Message", "Reply Body".)
use Rattle.std.specs.Prelude.{◌≤◌, ◌==◌, ◌&&◌, ℕ, Bool, List, [], length, if◌then◌else◌, Option}
use Rattle.ft_base.specs.Canonical.{IsCanonical, one_of}
use Rattle.ft_base.specs.declared.limits.TheConstants.{RESULT_LIMIT}
use Rattle.ft_base.specs.declared.requests.Par.{Par}
use Rattle.ft_base.specs.declared.requests.Outcome.{Outcome}
use Rattle.ft_base.specs.declared.requests.Outcome.TheVariants.{Value, User}
use Rattle.cdr_codec.specs.declared.orders.Order.{Order}
use Rattle.cdr_codec.specs.Values.{text}
use Rattle.cdr_codec.specs.Arguments.{reordered}
use Rattle.sys_faults.specs.declared.faults.Completed.TheVariants.{No}
use Rattle.sys_faults.specs.declared.faults.SysKind.TheVariants.{ObjectNotExist}
use Rattle.sys_faults.specs.declared.faults.SysFault.{SysFault}
use Rattle.sys_faults.specs.Bodies.{told, told_of, IsOtherId, OnUnknown}
use Rattle.iogr_reference.specs.declared.references.Ior.{Ior}
use Rattle.iogr_reference.specs.Choices.{repository_id}
use Rattle.iogr_reference.specs.Formats.{ior, IsWritable}
use Rattle.giop_messages.specs.declared.statuses.TheConstants.{NO_EXCEPTION, USER_EXCEPTION, SYSTEM_EXCEPTION, LOCATION_FORWARD, LOCATION_FORWARD_PERM, UNKNOWN_OBJECT, OBJECT_HERE}
use Rattle.giop_messages.specs.declared.forms.Form.{Form}
use Rattle.giop_messages.specs.declared.messages.Message.{Message}
use Rattle.giop_messages.specs.declared.messages.Message.TheVariants.{Reply, LocateReply}
use Rattle.host_server.specs.declared.answers.PortAnswer.{PortAnswer}
use Rattle.host_server.specs.declared.limits.TheConstants.{BODY_LIMIT, PART_LIMIT}
use Rattle.host_server.specs.declared.answers.PortAnswer.TheVariants.{NoGroup, Forward, Done, System, Down, NoMemory}

-- a Reply goes back with an answer, unless the host is down or memory was wanted
abbrev pub IsReply : PortAnswer → Type 0
IsReply NoGroup = Unit {0}
IsReply (Forward perm body) = Unit {0}
IsReply (Done outcome gives) = Unit {0}
IsReply (System fault) = Unit {0}
IsReply Down = ⊥
IsReply NoMemory = ⊥

-- ---- bodies

-- there is no object of this key
abbrev pub no_group : SysFault
no_group = record { kind = ObjectNotExist; minor = 1; completed = No }

abbrev pub fault_body : Order → SysFault → List ℕ
fault_body order fault = told.written order 0 (told_of fault)

-- a result from its canonical form into this byte order, or the repository id of a user exception
abbrev pub outcome_body : Order → Option Par → Outcome → List ℕ
outcome_body order gives (Value value) = reordered order (one_of gives) value
outcome_body order gives (User name) = text.written order 0 (repository_id name)

-- what is no Reply has no body
abbrev pub body_of : Order → PortAnswer → List ℕ
body_of order NoGroup = fault_body order no_group
body_of order (Forward perm body) = ior.written order 0 body
body_of order (Done outcome gives) = outcome_body order gives outcome
body_of order (System fault) = fault_body order fault
body_of order Down = []
body_of order NoMemory = []

-- short enough for a Reply that with its header isn't over 1 MiB
abbrev pub IsShortBody : List ℕ → Type 0
IsShortBody bytes = length bytes ≤ BODY_LIMIT

-- ---- statuses

abbrev pub outcome_status : Outcome → ℕ
outcome_status (Value value) = NO_EXCEPTION
outcome_status (User name) = USER_EXCEPTION

-- from now on, where the asker's minor version has such a status
abbrev pub forward_status : ℕ → Bool → ℕ
forward_status minor perm = if perm && minor == 2 then LOCATION_FORWARD_PERM else LOCATION_FORWARD

abbrev pub status_of : ℕ → PortAnswer → ℕ
status_of minor NoGroup = SYSTEM_EXCEPTION
status_of minor (Forward perm body) = forward_status minor perm
status_of minor (Done outcome gives) = outcome_status outcome
status_of minor (System fault) = SYSTEM_EXCEPTION
status_of minor Down = SYSTEM_EXCEPTION
status_of minor NoMemory = SYSTEM_EXCEPTION

abbrev pub locate_status_of : Bool → ℕ
locate_status_of here = if here then OBJECT_HERE else UNKNOWN_OBJECT

-- ---- messages

-- the Reply to the request with this id; it has no contexts
abbrev pub reply_to : ℕ → Form → PortAnswer → Message
reply_to id form answer = Reply (record {
  id = id;
  status = status_of form.minor answer;
  contexts = [];
  body = record { order = form.order; align = 0; bytes = body_of form.order answer };
})

abbrev pub locate_reply_to : ℕ → Bool → Message
locate_reply_to id here = LocateReply id (locate_status_of here)

-- ---- what can be answered

-- an id that no named exception has, of no more bytes than a part of a body can have
pub record IsShortId (id : List ℕ) : Type 0 where
  pub other : IsOtherId id
  pub short : length id ≤ PART_LIMIT

pub record IsForward (order : Order) (body : Ior) : Type 0 where
  pub writable : IsWritable body
  pub short : length (ior.written order 0 body) ≤ PART_LIMIT

-- the canonical form of a result, as a servant gives it
pub record IsResult (gives : Option Par) (value : List ℕ) : Type 0 where
  pub canonical : IsCanonical (one_of gives) value
  pub short : length value ≤ RESULT_LIMIT

abbrev pub CanGive : Option Par → Outcome → Type 0
CanGive gives (Value value) = IsResult gives value
CanGive gives (User name) = Unit {0}

-- an answer whose body can be spelled and isn't too long for a Reply
abbrev pub CanReply : Order → PortAnswer → Type 0
CanReply order NoGroup = Unit {0}
CanReply order (Forward perm body) = IsForward order body
CanReply order (Done outcome gives) = CanGive gives outcome
CanReply order (System fault) = OnUnknown fault.kind IsShortId
CanReply order Down = ⊥
CanReply order NoMemory = ⊥
