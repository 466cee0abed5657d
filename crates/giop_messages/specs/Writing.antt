-- The one spelling of a message with padding of zeros and reserved octets of 0.
use Rattle.std.specs.Prelude.{◌≡◌, ◌≤◌, ◌<◌, ◌^◌, ◌==◌, ℕ, ◌+◌, ◌-◌, true, if◌then◌else◌, List, [], ◌∷◌, ◌++◌, length, take, drop, replicate, Some, None}
use Rattle.std.specs.List.{All, find}
use Rattle.ft_base.specs.Canonical.{padding}
use Rattle.ft_base.specs.Text.{zero_place}
use Rattle.cdr_codec.specs.declared.orders.Order.{Order}
use Rattle.cdr_codec.specs.declared.orders.Order.TheVariants.{Big}
use Rattle.cdr_codec.specs.declared.bodies.Raw.{Raw}
use Rattle.cdr_codec.specs.Orders.{order_sign}
use Rattle.cdr_codec.specs.Calls.{Writer}
use Rattle.cdr_codec.specs.Formats.{Writing}
use Rattle.cdr_codec.specs.Reading.{digits_in}
use Rattle.ft_contexts.specs.declared.lists.Context.{Context}
use Rattle.giop_messages.specs.declared.heads.TheConstants.{HEAD_LENGTH, MESSAGE_LIMIT, SIZE_PLACE}
use Rattle.giop_messages.specs.declared.forms.Form.{Form}
use Rattle.giop_messages.specs.declared.heads.Head.{Head}
use Rattle.giop_messages.specs.declared.heads.Kind.{Kind}
use Rattle.giop_messages.specs.declared.messages.Message.{Message}
use Rattle.giop_messages.specs.declared.messages.Message.TheVariants as messages
use Rattle.giop_messages.specs.declared.messages.RequestMsg.{RequestMsg}
use Rattle.giop_messages.specs.declared.messages.ReplyMsg.{ReplyMsg}
use Rattle.giop_messages.specs.Heads.{has_kind, header}
use Rattle.giop_messages.specs.Fields.{response_flags, request_id, request_head, reply_statuses, reply_head, locate_request, locate_statuses, locate_reply}
use Rattle.giop_messages.specs.Messages.{kind_in, head_of_request, head_of_reply, body_boundary, body_align}

-- before an empty body there is no padding
abbrev pub padded_body : ℕ → List ℕ → List ℕ
padded_body pad [] = []
padded_body pad (b ∷ bs) = replicate pad 0 ++ b ∷ bs

abbrev pub written_body : ℕ → Writing (List ℕ)
written_body minor order place body = padded_body (padding place (body_boundary minor)) body

abbrev pub with_body : ℕ → ℕ → List ℕ → Raw → List ℕ
with_body minor place front body = front ++ padded_body (padding (place + length front) (body_boundary minor)) body.bytes

-- what stands behind the header, from this place on
abbrev pub written_fields : ℕ → Writing Message
written_fields minor order place (messages.Request r) = with_body minor place ((request_head minor).written order place (head_of_request r)) r.body
written_fields minor order place (messages.Reply r) = with_body minor place ((reply_head minor).written order place (head_of_reply r)) r.body
written_fields minor order place (messages.Cancel id) = request_id.written order place id
written_fields minor order place (messages.LocateRequest id key) = (locate_request minor).written order place (id, key)
written_fields minor order place (messages.LocateReply id status) = locate_reply.written order place (id, status)
written_fields minor order place messages.CloseConnection = []
written_fields minor order place messages.MessageError = []
written_fields minor order place (messages.Fragment id rest) = request_id.written order place id ++ rest

abbrev pub written_payload : Form → Message → List ℕ
written_payload form message = written_fields form.minor form.order HEAD_LENGTH message

-- the header of a message that is whole
abbrev pub whole_head : Form → Kind → ℕ → Head
whole_head form kind size = record { minor = form.minor; flags = order_sign form.order; kind = kind; size = size }

-- a header, and as many bytes as it says
abbrev pub headed_by : Form → Kind → List ℕ → List ℕ
headed_by form kind payload = header.written Big 0 (whole_head form kind (length payload)) ++ payload

abbrev pub written_message : Message → Form → List ℕ
written_message message form = headed_by form (kind_in message) (written_payload form message)

-- a writer behind a header that has no size yet
abbrev pub begun_message : Form → Kind → Writer
begun_message form kind = record { order = form.order; place = 0; text = header.written Big 0 (whole_head form kind 0) }

-- the same bytes, with the size of what stands behind the header
abbrev pub with_size : Order → List ℕ → List ℕ
with_size order text = take SIZE_PLACE text ++ (digits_in order 4 (length text - HEAD_LENGTH) ++ drop HEAD_LENGTH text)

-- ---- what can be written

-- contexts whose number and whose contents' lengths can be spelled
pub record AreContexts (contexts : List Context) : Type 0 where
  pub count : length contexts < 2 ^ 32
  pub contents : All (λ (c : Context). length c.content < 2 ^ 32) contexts

-- behind fields that end at this place, a body in the message's byte order, and where it begins modulo 8
pub record IsBodyFor (form : Form) (place : ℕ) (body : Raw) : Type 0 where
  pub ordered : body.order ≡ form.order
  pub aligned : body.align ≡ body_align form.minor place body.bytes
  pub short : length body.bytes < 2 ^ 32

-- where what is written behind a header ends
abbrev pub end_of : List ℕ → ℕ
end_of front = HEAD_LENGTH + length front

-- in 1.0 and 1.1 the flags only tell whether a reply is asked for
abbrev pub AreResponseFlags : ℕ → ℕ → Type 0
AreResponseFlags minor flags = (if minor == 2 then flags else response_flags (flags == 3)) ≡ flags

-- an operation's name
pub record IsOp (op : List ℕ) : Type 0 where
  pub no_zero : zero_place op ≡ None
  pub short : length op + 1 < 2 ^ 32

pub record IsRequest (form : Form) (r : RequestMsg) : Type 0 where
  pub flags : AreResponseFlags form.minor r.flags
  pub key : length r.key < 2 ^ 32
  pub op : IsOp r.op
  pub contexts : AreContexts r.contexts
  pub body : IsBodyFor form (end_of ((request_head form.minor).written form.order HEAD_LENGTH (head_of_request r))) r.body

-- the number is one of these
abbrev pub IsAmong : List ℕ → ℕ → Type 0
IsAmong statuses number = find (λ status. status == number) statuses ≡ Some number

pub record IsReply (form : Form) (r : ReplyMsg) : Type 0 where
  pub status : IsAmong (reply_statuses form.minor) r.status
  pub contexts : AreContexts r.contexts
  pub body : IsBodyFor form (end_of ((reply_head form.minor).written form.order HEAD_LENGTH (head_of_reply r))) r.body

abbrev pub HasFields : Form → Message → Type 0
HasFields form (messages.Request r) = IsRequest form r
HasFields form (messages.Reply r) = IsReply form r
HasFields form (messages.Cancel id) = Unit {0}
HasFields form (messages.LocateRequest id key) = length key < 2 ^ 32
HasFields form (messages.LocateReply id status) = IsAmong locate_statuses status
HasFields form messages.CloseConnection = Unit {0}
HasFields form messages.MessageError = Unit {0}
HasFields form (messages.Fragment id rest) = length rest < 2 ^ 32

-- a message that can be written: the form has messages of its type, its strings have no zero byte, its lengths
-- can be spelled, its flags and statuses are in range for the form, its body has the form's byte order and, where it
-- isn't empty, its place modulo 8 as its align, and with its header it has at most 1 MiB
pub record Writable (message : Message) (form : Form) : Type 0 where
  pub possible : has_kind form.minor (kind_in message) ≡ true
  pub fields : HasFields form message
  pub sized : length (written_message message form) ≤ MESSAGE_LIMIT

-- ---- the numbers of a message, which the code's own types bound

-- the ids of contexts
abbrev pub AreNumbered : List Context → Type 0
AreNumbered contexts = All (λ (c : Context). c.id < 2 ^ 32) contexts

pub record IsNumberedRequest (r : RequestMsg) : Type 0 where
  pub id : r.id < 2 ^ 32
  pub flags : r.flags < 256
  pub contexts : AreNumbered r.contexts

pub record IsNumberedReply (r : ReplyMsg) : Type 0 where
  pub id : r.id < 2 ^ 32
  pub contexts : AreNumbered r.contexts

abbrev pub IsNumbered : Message → Type 0
IsNumbered (messages.Request r) = IsNumberedRequest r
IsNumbered (messages.Reply r) = IsNumberedReply r
IsNumbered (messages.Cancel id) = id < 2 ^ 32
IsNumbered (messages.LocateRequest id key) = id < 2 ^ 32
IsNumbered (messages.LocateReply id status) = id < 2 ^ 32
IsNumbered messages.CloseConnection = Unit {0}
IsNumbered messages.MessageError = Unit {0}
IsNumbered (messages.Fragment id rest) = id < 2 ^ 32
