-- What a Reply says to a client, by its status and the bytes of its body. (GIOP chapter, "Reply Message",
-- `ReplyStatusType`; "Reply Body".)
use Rattle.std.specs.Prelude.{ℕ, ◌+◌, ◌-◌, ◌<◌, ◌^◌, ◌==◌, Bool, if◌then◌else◌, is_some, List, [], ◌∷◌, length, take, drop, Option, Some, None, Result, Ok, Err}
use Rattle.std.specs.List.{list_all}
use Rattle.std.specs.Str.{bytes_eq}
use Rattle.byteorder.specs.Endian.{big_bytes}
use Rattle.ft_base.specs.Text.{name_of}
use Rattle.ft_base.specs.declared.requests.Outcome.TheVariants.{Value, User}
use Rattle.cdr_codec.specs.declared.faults.CdrWhy.{CdrWhy}
use Rattle.cdr_codec.specs.declared.bodies.Raw.{Raw}
use Rattle.cdr_codec.specs.Reading.{Read}
use Rattle.cdr_codec.specs.Formats.{number}
use Rattle.cdr_codec.specs.Values.{text}
use Rattle.cdr_codec.specs.Arguments.{body_reader}
use Rattle.sys_faults.specs.declared.faults.SysFault.{SysFault}
use Rattle.sys_faults.specs.declared.reading.SysReadFault.{SysReadFault}
use Rattle.sys_faults.specs.Bodies.{fault_in}
use Rattle.iogr_reference.specs.declared.choices.TheConstants.{ID_BACK, ID_FRONT}
use Rattle.iogr_reference.specs.declared.faults.RefFault.{RefFault}
use Rattle.iogr_reference.specs.declared.references.GroupRef.{GroupRef}
use Rattle.iogr_reference.specs.declared.references.Iiop.{Iiop}
use Rattle.iogr_reference.specs.declared.references.Ior.{Ior}
use Rattle.iogr_reference.specs.Choices.{repository_id}
use Rattle.iogr_reference.specs.Formats.{ior}
use Rattle.iogr_reference.specs.Groups.{group_of}
use Rattle.giop_messages.specs.declared.messages.ReplyMsg.{ReplyMsg}
use Rattle.giop_messages.specs.declared.statuses.TheConstants.{NO_EXCEPTION, USER_EXCEPTION, SYSTEM_EXCEPTION, LOCATION_FORWARD, LOCATION_FORWARD_PERM}
use Rattle.client_retry.specs.declared.answers.Heard.{Heard}
use Rattle.client_retry.specs.declared.answers.Heard.TheVariants.{Outcome, System, Forward, Unreadable}

-- ---- a body that is one value and nothing more

abbrev pub unless_more : {X : Type 0} → X → List ℕ → Option X
unless_more x [] = Some x
unless_more x (byte ∷ rest) = None

-- what was read, where nothing is left behind it
abbrev pub whole_in : {X : Type 0} → Read CdrWhy X → Option X
whole_in (Ok x) = unless_more x.0 x.1.rest
whole_in (Err wrong) = None

-- ---- a value: a long long

-- its canonical form: eight bytes, the highest first
abbrev pub value_heard : Option ℕ → Heard
value_heard (Some n) = Outcome (Value (big_bytes 8 n))
value_heard None = Unreadable

abbrev pub value_in : Raw → Option ℕ
value_in body = whole_in ((number 8).read (body_reader body))

-- ---- a user exception: its repository id

-- what stands between the front and the back of a repository id
abbrev pub inside_id : List ℕ → List ℕ
inside_id id = drop (length ID_FRONT) (take (length id - length ID_BACK) id)

-- the name of which this is the repository id
abbrev pub name_in : List ℕ → Option (List ℕ)
name_in id = if bytes_eq id (repository_id (inside_id id)) then name_of (inside_id id) else None

abbrev pub name_heard : Option (List ℕ) → Heard
name_heard (Some name) = Outcome (User name)
name_heard None = Unreadable

abbrev pub exception_in : Option (List ℕ) → Option (List ℕ)
exception_in (Some id) = name_in id
exception_in None = None

-- the name of the exception whose repository id is the body
abbrev pub user_in : Raw → Option (List ℕ)
user_in body = exception_in (whole_in (text.read (body_reader body)))

-- ---- a system exception

abbrev pub fault_heard : Result SysFault SysReadFault → Heard
fault_heard (Ok fault) = System fault
fault_heard (Err wrong) = Unreadable

-- ---- a redirect: a reference of an object group, whose hosts can be called

-- a host is called by a text of 1 to 255 bytes
abbrev pub is_host : Iiop → Bool
is_host iiop = is_some (name_of iiop.host)

abbrev pub group_heard : Result GroupRef RefFault → Heard
group_heard (Ok group) = if list_all is_host group.profiles then Forward group else Unreadable
group_heard (Err wrong) = Unreadable

abbrev pub forward_heard : Option Ior → Heard
forward_heard (Some reference) = group_heard (group_of reference)
forward_heard None = Unreadable

abbrev pub forward_in : Raw → Option Ior
forward_in body = whole_in (ior.read (body_reader body))

-- ---- a Reply

-- what it says; nothing that can be read where it asks for another form of address, or has a status that is none
abbrev pub heard_by : ℕ → Raw → Heard
heard_by status body =
    if status == NO_EXCEPTION then value_heard (value_in body)
    else (if status == USER_EXCEPTION then name_heard (user_in body)
    else (if status == SYSTEM_EXCEPTION then fault_heard (fault_in body)
    else (if status == LOCATION_FORWARD then forward_heard (forward_in body)
    else (if status == LOCATION_FORWARD_PERM then forward_heard (forward_in body) else Unreadable))))

abbrev pub heard_of : ReplyMsg → Heard
heard_of reply = heard_by reply.status reply.body

-- a body whose places fit an unsigned long
abbrev pub IsReadable : Raw → Type 0
IsReadable body = body.align + length body.bytes + 8 < 2 ^ 32
