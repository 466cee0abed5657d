-- The fields of each message, up to its body. (GIOP chapter, "GIOP Message Formats".)
use Rattle.std.specs.Prelude.{ℕ, ◌==◌, Bool, if◌then◌else◌, List, [], ◌∷◌, Some}
use Rattle.std.specs.List.{find}
use Rattle.cdr_codec.specs.Formats.{Format, number, octets, followed, judged, lifted, any_octet}
use Rattle.cdr_codec.specs.Structs.{Fields, field, whole, struct}
use Rattle.cdr_codec.specs.Values.{boolean, text}
use Rattle.ft_contexts.specs.declared.lists.Context.{Context}
use Rattle.ft_contexts.specs.Lists.{contexts as context_list}
use Rattle.giop_messages.specs.declared.faults.Why.{Why}
use Rattle.giop_messages.specs.declared.faults.Why.TheVariants as causes
use Rattle.giop_messages.specs.declared.requests.RequestHead.{RequestHead}
use Rattle.giop_messages.specs.declared.replies.ReplyHead.{ReplyHead}
use Rattle.giop_messages.specs.declared.statuses.TheConstants.{NO_EXCEPTION, USER_EXCEPTION, SYSTEM_EXCEPTION, LOCATION_FORWARD, LOCATION_FORWARD_PERM, NEEDS_ADDRESSING_MODE, UNKNOWN_OBJECT, OBJECT_HERE}
use Rattle.giop_messages.specs.Faults.{up}
use Rattle.giop_messages.specs.Heads.{octet, either, mark}
use Rattle.giop_messages.specs.Addresses.{address}

abbrev pub request_id : Format Why ℕ
request_id = lifted up (number 4)

-- an octet that may be anything
abbrev pub reserved : Format Why (Unit {0})
reserved = lifted up (any_octet 0)

-- ---- service contexts

abbrev pub contexts : Format Why (List Context)
contexts = lifted up context_list

-- ---- a Request's fields

-- whether a reply is asked for is kept as response flags
abbrev pub response_flags : Bool → ℕ
response_flags asks = if asks then 3 else 0

-- response flags as a boolean
abbrev pub response_expected : Format Why ℕ
response_expected = judged (lifted up boolean) 1 causes.BadBool (λ asks. Some (response_flags asks)) (λ flags. flags == 3)

-- an object key that is not behind a discriminator
abbrev pub object_key : Format Why (List ℕ)
object_key = lifted up octets

-- octets that may be any, and are written as none
abbrev pub requesting_principal : Format Why (Unit {0})
requesting_principal = judged (lifted up octets) 4 causes.Short (λ xs. Some tt) (λ u. [])

-- of 1.0 and 1.1: object key, operation, requesting principal
abbrev pub from_object_key : List Context → ℕ → ℕ → Fields Why RequestHead
from_object_key contexts id flags =
    field object_key (λ h. h.key) (λ key.
    field (lifted up text) (λ h. h.op) (λ op.
    mark requesting_principal
    (whole (record { id = id; flags = flags; key = key; op = op; contexts = contexts }))))

-- of 1.1: three reserved octets before them
abbrev pub from_reserved : List Context → ℕ → ℕ → Fields Why RequestHead
from_reserved contexts id flags = mark reserved (mark reserved (mark reserved (from_object_key contexts id flags)))

-- of 1.0 and 1.1: service contexts, request id, whether a reply is asked for
abbrev pub from_contexts : (List Context → ℕ → ℕ → Fields Why RequestHead) → Fields Why RequestHead
from_contexts others =
    field contexts (λ h. h.contexts) (λ contexts.
    field request_id (λ h. h.id) (λ id.
    field response_expected (λ h. h.flags) (λ flags.
    others contexts id flags)))

-- of 1.2: request id, response flags, three reserved octets, target, operation, service contexts
abbrev pub request_fields_1_2 : Fields Why RequestHead
request_fields_1_2 =
    field request_id (λ h. h.id) (λ id.
    field octet (λ h. h.flags) (λ flags.
    mark reserved (mark reserved (mark reserved
    (field address (λ h. h.key) (λ key.
    field (lifted up text) (λ h. h.op) (λ op.
    field contexts (λ h. h.contexts) (λ contexts.
    whole (record { id = id; flags = flags; key = key; op = op; contexts = contexts })))))))))

-- `RequestHeader_1_0`
abbrev pub request_1_0 : Format Why RequestHead
request_1_0 = struct (from_contexts from_object_key)

-- `RequestHeader_1_1`
abbrev pub request_1_1 : Format Why RequestHead
request_1_1 = struct (from_contexts from_reserved)

-- `RequestHeader_1_2`
abbrev pub request_1_2 : Format Why RequestHead
request_1_2 = struct request_fields_1_2

abbrev pub request_head : ℕ → Format Why RequestHead
request_head minor = either (minor == 2) request_1_2 (either (minor == 1) request_1_1 request_1_0)

-- ---- a Reply's fields

-- the status among these with this number
abbrev pub status_among : List ℕ → Format Why ℕ
status_among statuses = judged (lifted up (number 4)) 4 causes.Status (λ n. find (λ status. status == n) statuses) (λ status. status)

abbrev pub statuses_1_2 : List ℕ
statuses_1_2 = NO_EXCEPTION ∷ USER_EXCEPTION ∷ SYSTEM_EXCEPTION ∷ LOCATION_FORWARD ∷ LOCATION_FORWARD_PERM ∷ NEEDS_ADDRESSING_MODE ∷ []

abbrev pub statuses_1_0 : List ℕ
statuses_1_0 = NO_EXCEPTION ∷ USER_EXCEPTION ∷ SYSTEM_EXCEPTION ∷ LOCATION_FORWARD ∷ []

abbrev pub reply_statuses : ℕ → List ℕ
reply_statuses minor = if minor == 2 then statuses_1_2 else statuses_1_0

-- of 1.0 and 1.1: service contexts, request id, reply status
abbrev pub reply_fields_1_0 : Fields Why ReplyHead
reply_fields_1_0 =
    field contexts (λ h. h.contexts) (λ contexts.
    field request_id (λ h. h.id) (λ id.
    field (status_among statuses_1_0) (λ h. h.status) (λ status.
    whole (record { id = id; status = status; contexts = contexts }))))

-- of 1.2: request id, reply status, service contexts
abbrev pub reply_fields_1_2 : Fields Why ReplyHead
reply_fields_1_2 =
    field request_id (λ h. h.id) (λ id.
    field (status_among statuses_1_2) (λ h. h.status) (λ status.
    field contexts (λ h. h.contexts) (λ contexts.
    whole (record { id = id; status = status; contexts = contexts }))))

abbrev pub reply_head : ℕ → Format Why ReplyHead
reply_head minor = either (minor == 2) (struct reply_fields_1_2) (struct reply_fields_1_0)

-- ---- the messages without a body

-- a target; in 1.0 and 1.1 the object key alone
abbrev pub target_key : ℕ → Format Why (List ℕ)
target_key minor = either (minor == 2) address object_key

-- request id, target
abbrev pub locate_request : ℕ → Format Why (ℕ × List ℕ)
locate_request minor = followed request_id (λ id. target_key minor)

abbrev pub locate_statuses : List ℕ
locate_statuses = UNKNOWN_OBJECT ∷ OBJECT_HERE ∷ []

-- request id, status
abbrev pub locate_reply : Format Why (ℕ × ℕ)
locate_reply = followed request_id (λ id. status_among locate_statuses)
