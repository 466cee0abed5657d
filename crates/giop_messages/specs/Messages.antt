-- Which bytes spell which message, and what is read of bytes. (GIOP chapter, "GIOP Message Formats".)
use Rattle.std.specs.Prelude.{◌≡◌, ◌≤◌, ℕ, ◌+◌, ◌%◌, ◌==◌, nat_lt, true, if◌then◌else◌, List, [], ◌∷◌, ◌++◌, length, take, drop, Result, Ok, Err}
use Rattle.ft_base.specs.Canonical.{padding}
use Rattle.cdr_codec.specs.declared.orders.Order.{Order}
use Rattle.cdr_codec.specs.declared.orders.Order.TheVariants.{Big}
use Rattle.cdr_codec.specs.declared.bodies.Raw.{Raw}
use Rattle.cdr_codec.specs.Orders.{order_of}
use Rattle.cdr_codec.specs.Reading.{Reader, reader_at, Fault, fault_at, ◌>>=◌}
use Rattle.cdr_codec.specs.Formats.{Spelling}
use Rattle.giop_messages.specs.declared.faults.Why.{Why}
use Rattle.giop_messages.specs.declared.faults.Why.TheVariants as causes
use Rattle.giop_messages.specs.declared.forms.Form.{Form}
use Rattle.giop_messages.specs.declared.heads.Kind.{Kind}
use Rattle.giop_messages.specs.declared.heads.Kind.TheVariants as kinds
use Rattle.giop_messages.specs.declared.heads.Head.{Head}
use Rattle.giop_messages.specs.declared.messages.Message.{Message}
use Rattle.giop_messages.specs.declared.messages.Message.TheVariants as messages
use Rattle.giop_messages.specs.declared.messages.RequestMsg.{RequestMsg}
use Rattle.giop_messages.specs.declared.messages.ReplyMsg.{ReplyMsg}
use Rattle.giop_messages.specs.declared.requests.RequestHead.{RequestHead}
use Rattle.giop_messages.specs.declared.replies.ReplyHead.{ReplyHead}
use Rattle.giop_messages.specs.declared.heads.TheConstants.{HEAD_LENGTH}
use Rattle.giop_messages.specs.Heads.{has_kind, header}
use Rattle.giop_messages.specs.Fields.{request_id, request_head, reply_head, locate_request, locate_reply}

abbrev pub kind_in : Message → Kind
kind_in (messages.Request r) = kinds.Request
kind_in (messages.Reply r) = kinds.Reply
kind_in (messages.Cancel id) = kinds.CancelRequest
kind_in (messages.LocateRequest id key) = kinds.LocateRequest
kind_in (messages.LocateReply id status) = kinds.LocateReply
kind_in messages.CloseConnection = kinds.CloseConnection
kind_in messages.MessageError = kinds.MessageError
kind_in (messages.Fragment id rest) = kinds.Fragment

abbrev pub head_of_request : RequestMsg → RequestHead
head_of_request r = record { id = r.id; flags = r.flags; key = r.key; op = r.op; contexts = r.contexts }

abbrev pub head_of_reply : ReplyMsg → ReplyHead
head_of_reply r = record { id = r.id; status = r.status; contexts = r.contexts }

-- GIOP 1.0, 1.1 or 1.2 in a byte order
abbrev pub giop : ℕ → Order → Form
giop minor order = record { minor = minor; order = order }

-- the form that a header names
abbrev pub form_of : Head → Form
form_of h = giop h.minor (order_of h.flags)

-- ---- where a body begins

-- a body begins at a multiple of this: in 1.0 and 1.1 right behind the fields
abbrev pub body_boundary : ℕ → ℕ
body_boundary minor = if minor == 2 then 8 else 1

-- the place of bytes modulo 8; of none it is 0
abbrev pub align_at : ℕ → List ℕ → ℕ
align_at place [] = 0
align_at place (b ∷ bs) = place % 8

abbrev pub body_align : ℕ → ℕ → List ℕ → ℕ
body_align minor place bytes = if minor == 2 then 0 else align_at place bytes

-- ---- spelling

-- the padding before a body is whole; before an empty body it may end earlier
abbrev pub IsPadded : List ℕ → ℕ → ℕ → Type 0
IsPadded [] count whole = count ≤ whole
IsPadded (b ∷ bs) count whole = count ≡ whole

-- the bytes are padding and the body, up to the message's end
pub record SpellsBody (form : Form) (place : ℕ) (body : Raw) (bytes : List ℕ) : Type 0 where
  pub pad : List ℕ
  pub is : bytes ≡ pad ++ body.bytes
  pub padded : IsPadded body.bytes (length pad) (padding place (body_boundary form.minor))
  pub ordered : body.order ≡ form.order
  pub aligned : body.align ≡ body_align form.minor place body.bytes

-- fields from the header's end on, and behind them a body
pub record SpellsWithBody {X : Type 0} (fields : Spelling X) (form : Form) (x : X) (body : Raw) (payload : List ℕ) : Type 0 where
  pub front : List ℕ
  pub back : List ℕ
  pub is : payload ≡ front ++ back
  pub fields_spelled : fields form.order HEAD_LENGTH x front
  pub body_spelled : SpellsBody form (HEAD_LENGTH + length front) body back

-- fields from the header's end on; what follows them says nothing
pub record SpellsFields {X : Type 0} (fields : Spelling X) (order : Order) (x : X) (payload : List ℕ) : Type 0 where
  pub front : List ℕ
  pub more : List ℕ
  pub is : payload ≡ front ++ more
  pub fields_spelled : fields order HEAD_LENGTH x front

-- a request id, and behind it what a fragment adds
pub record SpellsFragment (order : Order) (id : ℕ) (rest payload : List ℕ) : Type 0 where
  pub front : List ℕ
  pub is : payload ≡ front ++ rest
  pub id_spelled : request_id.Spelled order HEAD_LENGTH id front

abbrev pub SpellsPayload : Form → Message → List ℕ → Type 0
SpellsPayload form (messages.Request r) payload = SpellsWithBody (request_head form.minor).Spelled form (head_of_request r) r.body payload
SpellsPayload form (messages.Reply r) payload = SpellsWithBody (reply_head form.minor).Spelled form (head_of_reply r) r.body payload
SpellsPayload form (messages.Cancel id) payload = SpellsFields request_id.Spelled form.order id payload
SpellsPayload form (messages.LocateRequest id key) payload = SpellsFields (locate_request form.minor).Spelled form.order (id, key) payload
SpellsPayload form (messages.LocateReply id status) payload = SpellsFields locate_reply.Spelled form.order (id, status) payload
SpellsPayload form messages.CloseConnection payload = Unit {0}
SpellsPayload form messages.MessageError payload = Unit {0}
SpellsPayload form (messages.Fragment id rest) payload = SpellsFragment form.order id rest payload

-- At the front of the bytes stands the message in this form, which has messages of its type: a header, and as many
-- bytes as it says, which spell the message's fields.
pub record Spells (bytes : List ℕ) (form : Form) (message : Message) : Type 0 where
  pub flags : ℕ
  pub front : List ℕ
  pub payload : List ℕ
  pub more : List ℕ
  pub is : bytes ≡ front ++ payload ++ more
  pub ordered : form.order ≡ order_of flags
  pub possible : has_kind form.minor (kind_in message) ≡ true
  pub head_spelled : header.Spelled Big 0 (record { minor = form.minor; flags = flags; kind = kind_in message; size = length payload }) front
  pub fields_spelled : SpellsPayload form message payload

-- ---- reading

-- the body behind the fields: what is left behind the padding
abbrev pub body_of : ℕ → Reader → List ℕ → Raw
body_of minor r bytes = record { order = r.order; align = body_align minor r.place bytes; bytes = bytes }

abbrev pub body_at : ℕ → Reader → Raw
body_at minor r = body_of minor r (drop (padding r.place (body_boundary minor)) r.rest)

abbrev pub request_from : RequestHead → Raw → RequestMsg
request_from h body = record { id = h.id; flags = h.flags; key = h.key; op = h.op; contexts = h.contexts; body = body }

abbrev pub reply_from : ReplyHead → Raw → ReplyMsg
reply_from h body = record { id = h.id; status = h.status; contexts = h.contexts; body = body }

-- the message of this type whose fields stand there, up to the end of the rest
abbrev pub payload_at : ℕ → Kind → Reader → Result Message (Fault Why)
payload_at minor kinds.Request r = (request_head minor).read r >>= λ h. Ok (messages.Request (request_from h.0 (body_at minor h.1)))
payload_at minor kinds.Reply r = (reply_head minor).read r >>= λ h. Ok (messages.Reply (reply_from h.0 (body_at minor h.1)))
payload_at minor kinds.CancelRequest r = request_id.read r >>= λ id. Ok (messages.Cancel id.0)
payload_at minor kinds.LocateRequest r = (locate_request minor).read r >>= λ x. Ok (messages.LocateRequest x.0.0 x.0.1)
payload_at minor kinds.LocateReply r = locate_reply.read r >>= λ x. Ok (messages.LocateReply x.0.0 x.0.1)
payload_at minor kinds.CloseConnection r = Ok messages.CloseConnection
payload_at minor kinds.MessageError r = Ok messages.MessageError
payload_at minor kinds.Fragment r = request_id.read r >>= λ id. Ok (messages.Fragment id.0 id.1.rest)

-- the type isn't one of this minor version; no header that is read says so
abbrev pub no_kind : Fault Why
no_kind = fault_at causes.Kind 7

-- the message of this type and form whose fields are these bytes
abbrev pub fields_in_form : Form → Kind → List ℕ → Result (Message × Form) (Fault Why)
fields_in_form form k payload = payload_at form.minor k (reader_at form.order HEAD_LENGTH payload) >>= λ m. Ok (m, form)

-- the message of this header whose fields are these bytes, and its form
abbrev pub fields_in : Head → List ℕ → Result (Message × Form) (Fault Why)
fields_in h payload = if has_kind h.minor h.kind then fields_in_form (form_of h) h.kind payload else Err no_kind

-- the bytes end inside the message
abbrev pub cut : List ℕ → Fault Why
cut bytes = fault_at causes.Cut (length bytes)

-- the message behind a header: as many bytes as it says
abbrev pub behind : List ℕ → Head → Result (Message × Form) (Fault Why)
behind bytes h = if nat_lt (length bytes) (HEAD_LENGTH + h.size) then Err (cut bytes) else fields_in h (take h.size (drop HEAD_LENGTH bytes))

-- the message of these bytes, whose header this reader reads
abbrev pub headed : List ℕ → Reader → Result (Message × Form) (Fault Why)
headed bytes r = header.read r >>= λ h. behind bytes h.0

-- The message at the front of the bytes and its form, or the first thing that is wrong: the header is
-- judged once it is there, and the fields once the whole message is there.
abbrev pub message_in : List ℕ → Result (Message × Form) (Fault Why)
message_in bytes = if nat_lt (length bytes) HEAD_LENGTH then Err (cut bytes) else headed bytes (reader_at Big 0 bytes)
