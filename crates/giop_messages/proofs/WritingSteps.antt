-- The fields of messages, written one behind the other.
use Rattle.std.proofs.Common.{◌≡◌, ◌<◌, ◌^◌, ℕ, ◌+◌, ◌-◌, ◌%◌, List, [], ◌∷◌, ◌++◌, length, replicate, refl, sym, ap, ◌∙◌, append_assoc, length-append, arith}
use Rattle.std.proofs.Math.Nat.{mod-one, mod-eq_of_lt}
use Rattle.ft_base.specs.Canonical.{padding}
use Rattle.cdr_codec.specs.declared.orders.Order.{Order}
use Rattle.cdr_codec.specs.declared.orders.Order.TheVariants.{Big, Little}
use Rattle.cdr_codec.specs.Orders.{order_sign}
use Rattle.cdr_codec.specs.Reading.{digits_in}
use Rattle.cdr_codec.specs.Formats.{number, octets, written_piece}
use Rattle.cdr_codec.specs.Values.{text}
use Rattle.cdr_codec.specs.Calls.{Writer, appended}
use Rattle.cdr_codec.specs.Structs.{struct}
use Rattle.cdr_codec.proofs.Writing.{pair_written, nothing_written}
use Rattle.cdr_codec.proofs.StructLaws.{struct_written}
use Rattle.giop_messages.specs.declared.addresses.Target.TheVariants as targets
use Rattle.giop_messages.specs.declared.heads.TheConstants.{HEAD_LENGTH}
use Rattle.giop_messages.specs.declared.forms.Form.{Form}
use Rattle.giop_messages.specs.declared.heads.Kind.{Kind}
use Rattle.giop_messages.specs.declared.heads.Kind.TheVariants as kinds
use Rattle.giop_messages.specs.declared.requests.RequestHead.{RequestHead}
use Rattle.giop_messages.specs.declared.replies.ReplyHead.{ReplyHead}
use Rattle.giop_messages.specs.declared.messages.Message.{Message}
use Rattle.giop_messages.specs.declared.messages.Message.TheVariants as messages
use Rattle.giop_messages.specs.declared.messages.RequestMsg.{RequestMsg}
use Rattle.giop_messages.specs.declared.messages.ReplyMsg.{ReplyMsg}
use Rattle.giop_messages.specs.Heads.{kind_sign, header}
use Rattle.giop_messages.specs.Addresses.{target_by, address}
use Rattle.giop_messages.specs.Fields.{request_id, reserved, response_expected, requesting_principal, contexts, from_object_key, from_reserved, from_contexts, request_fields_1_2, request_1_0, request_1_1, request_1_2, request_head, reply_fields_1_0, reply_fields_1_2, reply_head, target_key, status_among, locate_statuses}
use Rattle.giop_messages.specs.Messages.{giop, kind_in, head_of_request, head_of_reply, body_boundary}
use Rattle.giop_messages.specs.Writing.{padded_body, written_body, written_fields, written_payload, whole_head, headed_by, written_message, begun_message, with_size, Writable}

abbrev with_text : Writer → List ℕ → Writer
with_text w text = record w { text = text }

abbrev fresh : Order → Writer
fresh order = record { order = order; place = 0; text = [] }

-- ---- the header

-- a type's number is an octet
kind_octet : (k : Kind) → kind_sign k ≡ kind_sign k % 256
kind_octet kinds.Request = refl
kind_octet kinds.Reply = refl
kind_octet kinds.CancelRequest = refl
kind_octet kinds.LocateRequest = refl
kind_octet kinds.LocateReply = refl
kind_octet kinds.CloseConnection = refl
kind_octet kinds.MessageError = refl
kind_octet kinds.Fragment = refl

abbrev front_with : Order → ℕ → ℕ → Writer
front_with order minor kind = record {
  order = order;
  place = 0;
  text = 71 ∷ 73 ∷ 79 ∷ 80 ∷ 1 ∷ minor ∷ order_sign order ∷ kind ∷ 0 ∷ 0 ∷ 0 ∷ 0 ∷ [];
}

front_begun : (minor : ℕ) (order : Order) (k : Kind) → minor ≡ minor % 256
    → appended (written_piece 1) (71 ∷ 73 ∷ 79 ∷ 80 ∷ 1 ∷ minor ∷ order_sign order ∷ kind_sign k ∷ 0 ∷ 0 ∷ 0 ∷ 0 ∷ []) (fresh order)
    ≡ begun_message (giop minor order) k
front_begun minor Big k octet = ap (front_with Big minor) (kind_octet k) ∙ ap (λ (n : ℕ). front_with Big n (kind_sign k % 256)) octet
front_begun minor Little k octet = ap (front_with Little minor) (kind_octet k) ∙ ap (λ (n : ℕ). front_with Little n (kind_sign k % 256)) octet

-- a header without its size is the same in either order
pub header_begun : (form : Form) (k : Kind) → form.minor < 256
    → appended (written_piece 1) (71 ∷ 73 ∷ 79 ∷ 80 ∷ 1 ∷ form.minor ∷ order_sign form.order ∷ kind_sign k ∷ 0 ∷ 0 ∷ 0 ∷ 0 ∷ []) (fresh form.order)
    ≡ begun_message form k
header_begun form k small = front_begun form.minor form.order k (sym (mod-eq_of_lt small))

length_of : (minor : ℕ) (order : Order) (k : Kind) (size : ℕ) → length (header.written Big 0 (whole_head (giop minor order) k size)) ≡ HEAD_LENGTH
length_of minor Big k size = refl
length_of minor Little k size = refl

header_length : (form : Form) (k : Kind) (size : ℕ) → length (header.written Big 0 (whole_head form k size)) ≡ HEAD_LENGTH
header_length form k size = length_of form.minor form.order k size

unpadded : (place : ℕ) → padding place 1 ≡ 0
unpadded place = mod-one (1 - place % 1)

piece_behind : (piece : List ℕ) (w : Writer) → appended (written_piece 1) piece w ≡ with_text w (w.text ++ piece)
piece_behind piece w = ap (λ (n : ℕ). with_text w (w.text ++ (replicate n 0 ++ piece))) (unpadded (w.place + length w.text))

-- ---- what stands behind the header

-- before an empty body there is nothing
pub no_body : (minor : ℕ) (body : List ℕ) (w : Writer) → body ≡ [] → w ≡ appended (written_body minor) body w
no_body minor body w none =
    sym (nothing_written w) ∙ ap (λ (l : List ℕ). with_text w (w.text ++ padded_body (padding (w.place + length w.text) (body_boundary minor)) l)) (sym none)

body_padded : (skip : ℕ) (body : List ℕ) → (body ≡ [] → ⊥) → replicate skip 0 ++ body ≡ padded_body skip body
body_padded skip [] some = absurd (some refl)
body_padded skip (b ∷ bs) some = refl

pub body_written : (minor unit : ℕ) (body : List ℕ) (w u : Writer) → unit ≡ body_boundary minor → (body ≡ [] → ⊥)
    → u ≡ appended (written_piece unit) body w → u ≡ appended (written_body minor) body w
body_written minor unit body w u is some written =
    written ∙ ap (λ (n : ℕ). appended (written_piece n) body w) is
    ∙ ap (λ (l : List ℕ). with_text w (w.text ++ l)) (body_padded (padding (w.place + length w.text) (body_boundary minor)) body some)

-- ---- fields

pub address_written : (key : List ℕ) (w : Writer) → appended address.written key w ≡ appended octets.written key (appended (number 2).written 0 w)
address_written key w = pair_written (number 2).written (λ n. (target_by n).written) (0, targets.Key key) w

pub request_1_0_written : (h : RequestHead) (w : Writer)
    → appended request_1_0.written h w
    ≡ appended requesting_principal.written tt (appended text.written h.op (appended octets.written h.key
    (appended response_expected.written h.flags (appended (number 4).written h.id (appended contexts.written h.contexts w)))))
request_1_0_written h w = struct_written (from_contexts from_object_key) h w

pub request_1_1_written : (h : RequestHead) (w : Writer)
    → appended request_1_1.written h w
    ≡ appended requesting_principal.written tt (appended text.written h.op (appended octets.written h.key
    (appended reserved.written tt (appended reserved.written tt (appended reserved.written tt
    (appended response_expected.written h.flags (appended (number 4).written h.id (appended contexts.written h.contexts w))))))))
request_1_1_written h w = struct_written (from_contexts from_reserved) h w

pub request_1_2_written : (h : RequestHead) (w : Writer)
    → appended request_1_2.written h w
    ≡ appended contexts.written h.contexts (appended text.written h.op (appended address.written h.key
    (appended reserved.written tt (appended reserved.written tt (appended reserved.written tt
    (appended (number 1).written h.flags (appended (number 4).written h.id w)))))))
request_1_2_written h w = struct_written request_fields_1_2 h w

pub reply_1_0_written : (h : ReplyHead) (w : Writer)
    → appended (struct reply_fields_1_0).written h w ≡ appended (number 4).written h.status (appended (number 4).written h.id (appended contexts.written h.contexts w))
reply_1_0_written h w = struct_written reply_fields_1_0 h w

pub reply_1_2_written : (h : ReplyHead) (w : Writer)
    → appended (struct reply_fields_1_2).written h w ≡ appended contexts.written h.contexts (appended (number 4).written h.status (appended (number 4).written h.id w))
reply_1_2_written h w = struct_written reply_fields_1_2 h w

-- key, operation and principal, where what is written is named otherwise
pub key_and_op : (key named op name : List ℕ) (w v u t : Writer) → named ≡ key → v ≡ appended octets.written named w → name ≡ op
    → u ≡ appended text.written name v → t ≡ appended requesting_principal.written tt u
    → t ≡ appended requesting_principal.written tt (appended text.written op (appended octets.written key w))
key_and_op key named op name w v u t key-is keyed op-is opened last =
    last ∙ ap (appended requesting_principal.written tt)
    (opened ∙ ap (λ (l : List ℕ). appended text.written l v) op-is
    ∙ ap (appended text.written op) (keyed ∙ ap (λ (l : List ℕ). appended octets.written l w) key-is))

-- ---- what stands behind the header, by its parts

pub request_written : (minor : ℕ) (r : RequestMsg) (body : List ℕ) (w v u : Writer) → v ≡ appended (request_head minor).written (head_of_request r) w
    → body ≡ r.body.bytes → u ≡ appended (written_body minor) body v → u ≡ appended (written_fields minor) (messages.Request r) w
request_written minor r body w v u head is written =
    written ∙ ap (λ (b : List ℕ). appended (written_body minor) b v) is ∙ ap (appended (written_body minor) r.body.bytes) head
    ∙ sym (pair_written (request_head minor).written (λ h. written_body minor) (head_of_request r, r.body.bytes) w)

pub reply_written : (minor : ℕ) (r : ReplyMsg) (body : List ℕ) (w v u : Writer) → v ≡ appended (reply_head minor).written (head_of_reply r) w
    → body ≡ r.body.bytes → u ≡ appended (written_body minor) body v → u ≡ appended (written_fields minor) (messages.Reply r) w
reply_written minor r body w v u head is written =
    written ∙ ap (λ (b : List ℕ). appended (written_body minor) b v) is ∙ ap (appended (written_body minor) r.body.bytes) head
    ∙ sym (pair_written (reply_head minor).written (λ h. written_body minor) (head_of_reply r, r.body.bytes) w)

pub locate_request_written : (minor id : ℕ) (key : List ℕ) (w v u : Writer) → v ≡ appended (number 4).written id w → u ≡ appended (target_key minor).written key v
    → u ≡ appended (written_fields minor) (messages.LocateRequest id key) w
locate_request_written minor id key w v u first second =
    second ∙ ap (appended (target_key minor).written key) first ∙ sym (pair_written request_id.written (λ id. (target_key minor).written) (id, key) w)

pub locate_reply_written : (minor id status : ℕ) (w v u : Writer) → v ≡ appended (number 4).written id w → u ≡ appended (number 4).written status v
    → u ≡ appended (written_fields minor) (messages.LocateReply id status) w
locate_reply_written minor id status w v u first second =
    second ∙ ap (appended (number 4).written status) first
    ∙ sym (pair_written request_id.written (λ id. (status_among locate_statuses).written) (id, status) w)

pub fragment_written : (minor id : ℕ) (rest : List ℕ) (w v u : Writer) → v ≡ appended (number 4).written id w → u ≡ appended (written_piece 1) rest v
    → u ≡ appended (written_fields minor) (messages.Fragment id rest) w
fragment_written minor id rest w v u first second =
    second ∙ ap (appended (written_piece 1) rest) first ∙ piece_behind rest (appended (number 4).written id w)
    ∙ ap (with_text w) (append_assoc w.text ((number 4).written w.order (w.place + length w.text) id) rest)

pub nothing_closed : (minor : ℕ) (w : Writer) → w ≡ appended (written_fields minor) messages.CloseConnection w
nothing_closed minor w = sym (nothing_written w)

pub nothing_wrong : (minor : ℕ) (w : Writer) → w ≡ appended (written_fields minor) messages.MessageError w
nothing_wrong minor w = sym (nothing_written w)

-- ---- the whole message

-- a header without its size, and what stands behind it
abbrev unsized : Form → Message → Kind → Writer
unsized form m k = record { order = form.order; place = 0; text = header.written Big 0 (whole_head form k 0) ++ written_payload form m }

-- the fields stand behind the header
behind_header : (m : Message) (form : Form) (k : Kind) → appended (written_fields form.minor) m (begun_message form k) ≡ unsized form m k
behind_header m form k =
    let front = header.written Big 0 (whole_head form k 0) in
    let place-is : 0 + length front ≡ HEAD_LENGTH = omega (arith, header_length form k 0) in
    ap (λ (n : ℕ). with_text (begun_message form k) (front ++ written_fields form.minor form.order n m)) place-is

pub text_written : (m : Message) (form : Form) (w v : Writer) → w ≡ begun_message form (kind_in m) → v ≡ appended (written_fields form.minor) m w
    → v ≡ unsized form m (kind_in m)
text_written m form w v begun written = written ∙ ap (appended (written_fields form.minor) m) begun ∙ behind_header m form (kind_in m)

-- a header with the size of what stands behind it
size_of : (form : Form) (k : Kind) (payload : List ℕ) → length (header.written Big 0 (whole_head form k 0) ++ payload) - HEAD_LENGTH ≡ length payload
size_of form k payload = omega (arith, length-append (header.written Big 0 (whole_head form k 0)) payload, header_length form k 0)

sized_in : (minor : ℕ) (order : Order) (k : Kind) (payload : List ℕ)
    → with_size order (header.written Big 0 (whole_head (giop minor order) k 0) ++ payload) ≡ headed_by (giop minor order) k payload
sized_in minor Big k payload =
    ap (λ (n : ℕ). 71 ∷ 73 ∷ 79 ∷ 80 ∷ 1 ∷ (minor % 256) ∷ 0 ∷ (kind_sign k % 256) ∷ (digits_in Big 4 n ++ payload)) (size_of (giop minor Big) k payload)
sized_in minor Little k payload =
    ap (λ (n : ℕ). 71 ∷ 73 ∷ 79 ∷ 80 ∷ 1 ∷ (minor % 256) ∷ 1 ∷ (kind_sign k % 256) ∷ (digits_in Little 4 n ++ payload)) (size_of (giop minor Little) k payload)

sized : (form : Form) (k : Kind) (payload : List ℕ) → with_size form.order (header.written Big 0 (whole_head form k 0) ++ payload) ≡ headed_by form k payload
sized form k payload = sized_in form.minor form.order k payload

pub text_short : (m : Message) (form : Form) (v : Writer) → Writable m form → v ≡ unsized form m (kind_in m) → length v.text < 2 ^ 32
text_short m form v h is =
    let payload = written_payload form m in
    let front = header.written Big 0 (whole_head form (kind_in m) 0) in
    let whole = header.written Big 0 (whole_head form (kind_in m) (length payload)) in
    omega (
      arith,
      h.sized,
      ap (λ (w : Writer). length w.text) is,
      length-append front payload,
      length-append whole payload,
      header_length form (kind_in m) 0,
      header_length form (kind_in m) (length payload),
    )

pub text_whole : (m : Message) (form : Form) (v : Writer) → v ≡ unsized form m (kind_in m) → with_size v.order v.text ≡ written_message m form
text_whole m form v is = ap (λ (w : Writer). with_size w.order w.text) is ∙ sized form (kind_in m) (written_payload form m)
