-- Replies can be written: with its header none is over 1 MiB.
use Rattle.std.proofs.Common.{◌≡◌, ◌≤◌, ℕ, ◌+◌, true, false, List, [], ◌∷◌, ◌++◌, length, refl, length-append, arith, lit<, Bool, cond, ap, sym, subst, ◌∙◌, lt-ltb}
use Rattle.std.specs.Prelude.{◌==◌, ◌||◌, ◌&&◌, ◌<◌, nat_lt}
use Rattle.ft_base.specs.declared.requests.Outcome.TheVariants.{Value, User}
use Rattle.ft_base.specs.Canonical.{padding}
use Rattle.cdr_codec.specs.declared.orders.Order.{Order}
use Rattle.cdr_codec.specs.declared.orders.Order.TheVariants.{Big, Little}
use Rattle.cdr_codec.specs.Structs.{struct}
use Rattle.ft_contexts.specs.declared.lists.Context.{Context}
use Rattle.giop_messages.specs.declared.heads.TheConstants.{HEAD_LENGTH, MESSAGE_LIMIT}
use Rattle.giop_messages.specs.declared.forms.Form.{Form}
use Rattle.giop_messages.specs.declared.heads.Kind.{Kind}
use Rattle.giop_messages.specs.declared.heads.Kind.TheVariants as kinds
use Rattle.giop_messages.specs.declared.messages.Message.TheVariants as messages
use Rattle.giop_messages.specs.declared.messages.ReplyMsg.{ReplyMsg}
use Rattle.giop_messages.specs.declared.statuses.TheConstants.{SYSTEM_EXCEPTION, LOCATION_FORWARD, LOCATION_FORWARD_PERM}
use Rattle.giop_messages.specs.Heads.{either, header}
use Rattle.giop_messages.specs.Fields.{locate_reply, locate_statuses, reply_fields_1_2, reply_fields_1_0, statuses_1_2, statuses_1_0, reply_statuses, reply_head}
use Rattle.giop_messages.specs.Messages.{giop, align_at, body_align, body_boundary}
use Rattle.giop_messages.specs.Writing.{end_of, padded_body, whole_head, written_message, IsAmong, Writable}
use Rattle.host_server.specs.declared.answers.PortAnswer.{PortAnswer}
use Rattle.host_server.specs.declared.answers.PortAnswer.TheVariants.{NoGroup, Forward, Done, System, Down, NoMemory}
use Rattle.host_server.specs.Replies.{locate_status_of, locate_reply_to, outcome_status, status_of, IsShortBody}

headed_in : (minor : ℕ) (order : Order) (k : Kind) (size : ℕ) → length (header.written Big 0 (whole_head (giop minor order) k size)) ≡ HEAD_LENGTH
headed_in minor Big k size = refl
headed_in minor Little k size = refl

headed : (form : Form) (k : Kind) (size : ℕ) → length (header.written Big 0 (whole_head form k size)) ≡ HEAD_LENGTH
headed form k size = headed_in form.minor form.order k size

-- the fields of a Reply without contexts, which has them in one order or the other
fields_in_order : (new : Bool) (order : Order) (id status : ℕ)
    → length ((either new (struct reply_fields_1_2) (struct reply_fields_1_0)).written order HEAD_LENGTH (record { id = id; status = status; contexts = [] })) ≡ 12
fields_in_order true Big id status = refl
fields_in_order true Little id status = refl
fields_in_order false Big id status = refl
fields_in_order false Little id status = refl

abbrev a_reply : ℕ → ℕ → Order → List ℕ → ReplyMsg
a_reply id status order bytes =
    record { id = id; status = status; contexts = []; body = record { order = order; align = 0; bytes = bytes } }

abbrev front_of : Form → ℕ → ℕ → List ℕ
front_of form id status = (reply_head form.minor).written form.order HEAD_LENGTH (record { id = id; status = status; contexts = [] })

ends_at : (form : Form) (id status : ℕ) → end_of (front_of form id status) ≡ 24
ends_at form id status = ap (λ (n : ℕ). HEAD_LENGTH + n) (fields_in_order (form.minor == 2) form.order id status)

-- a body stands there with no padding
unpadded : (new : Bool) → padding 24 (cond new 8 1) ≡ 0
unpadded true = refl
unpadded false = refl

body_length : (body : List ℕ) → length (padded_body 0 body) ≡ length body
body_length [] = refl
body_length (b ∷ bs) = refl

align_there : (bytes : List ℕ) → 0 ≡ align_at 24 bytes
align_there [] = refl
align_there (b ∷ bs) = refl

aligned_by : (new : Bool) (bytes : List ℕ) → 0 ≡ cond new 0 (align_at 24 bytes)
aligned_by true bytes = refl
aligned_by false bytes = align_there bytes

aligned_there : (form : Form) (id status : ℕ) (bytes : List ℕ) → 0 ≡ body_align form.minor (end_of (front_of form id status)) bytes
aligned_there form id status bytes = aligned_by (form.minor == 2) bytes ∙ ap (λ (n : ℕ). body_align form.minor n bytes) (sym (ends_at form id status))

reply_sized : (id status : ℕ) (form : Form) (bytes : List ℕ) → IsShortBody bytes
    → length (written_message (messages.Reply (a_reply id status form.order bytes)) form) ≤ MESSAGE_LIMIT
reply_sized id status form bytes h =
    let front = front_of form id status in
    let body = padded_body (padding (end_of front) (body_boundary form.minor)) bytes in
    let size = length (front ++ body) in
    let there : padding (end_of front) (body_boundary form.minor) ≡ 0 = ap (λ (n : ℕ). padding n (body_boundary form.minor)) (ends_at form id status) ∙ unpadded (form.minor == 2) in
    let long : length body ≡ length bytes = ap (λ (n : ℕ). length (padded_body n bytes)) there ∙ body_length bytes in
    omega (
      arith,
      length-append (header.written Big 0 (whole_head form kinds.Reply size)) (front ++ body),
      length-append front body,
      headed form kinds.Reply size,
      fields_in_order (form.minor == 2) form.order id status,
      long,
      h,
    )

-- what an answer's status is has a Reply of its asker's minor version
abbrev status_by : Bool → PortAnswer → ℕ
status_by new NoGroup = SYSTEM_EXCEPTION
status_by new (Forward perm body) = cond (perm && new) LOCATION_FORWARD_PERM LOCATION_FORWARD
status_by new (Done outcome gives) = outcome_status outcome
status_by new (System fault) = SYSTEM_EXCEPTION
status_by new Down = SYSTEM_EXCEPTION
status_by new NoMemory = SYSTEM_EXCEPTION

among : (new : Bool) (answer : PortAnswer) → IsAmong (cond new statuses_1_2 statuses_1_0) (status_by new answer)
among true NoGroup = refl
among true (Forward true body) = refl
among true (Forward false body) = refl
among true (Done (Value value) gives) = refl
among true (Done (User name) gives) = refl
among true (System fault) = refl
among true Down = refl
among true NoMemory = refl
among false NoGroup = refl
among false (Forward true body) = refl
among false (Forward false body) = refl
among false (Done (Value value) gives) = refl
among false (Done (User name) gives) = refl
among false (System fault) = refl
among false Down = refl
among false NoMemory = refl

status_is : (minor : ℕ) (answer : PortAnswer) → status_of minor answer ≡ status_by (minor == 2) answer
status_is minor NoGroup = refl
status_is minor (Forward perm body) = refl
status_is minor (Done outcome gives) = refl
status_is minor (System fault) = refl
status_is minor Down = refl
status_is minor NoMemory = refl

status_among : (minor : ℕ) (answer : PortAnswer) → IsAmong (reply_statuses minor) (status_of minor answer)
status_among minor answer = subst (IsAmong (reply_statuses minor)) (sym (status_is minor answer)) (among (minor == 2) answer)

-- each minor version has messages that are no fragments
known : (b d : Bool) → b ≡ true → (b && (d || true)) ≡ true
known true true e = refl
known true false e = refl
known false d e = e

pub reply_writable : (id : ℕ) (form : Form) (answer : PortAnswer) (bytes : List ℕ) → form.minor < 3 → IsShortBody bytes
    → Writable (messages.Reply (a_reply id (status_of form.minor answer) form.order bytes)) form
reply_writable id form answer bytes minor short = record {
  possible = known (nat_lt form.minor 3) (form.minor == 2) (lt-ltb form.minor 3 minor);
  fields = record {
    status = status_among form.minor answer;
    contexts = record { count = lit< tt; contents = λ k d h. absurd (omega arith) };
    body = record { ordered = refl; aligned = aligned_there form id (status_of form.minor answer) bytes; short = omega arith };
  };
  sized = reply_sized id (status_of form.minor answer) form bytes short;
}

locate_among : (here : Bool) → IsAmong locate_statuses (locate_status_of here)
locate_among true = refl
locate_among false = refl

locate_long : (order : Order) (id status : ℕ) → length (locate_reply.written order HEAD_LENGTH (id, status)) ≡ 8
locate_long Big id status = refl
locate_long Little id status = refl

pub locate_writable : (id : ℕ) (form : Form) (here : Bool) → form.minor < 3 → Writable (locate_reply_to id here) form
locate_writable id form here minor =
    let payload = locate_reply.written form.order HEAD_LENGTH (id, locate_status_of here) in
    record {
      possible = known (nat_lt form.minor 3) (form.minor == 2) (lt-ltb form.minor 3 minor);
      fields = locate_among here;
      sized = omega (
        arith,
        length-append (header.written Big 0 (whole_head form kinds.LocateReply (length payload))) payload,
        headed form kinds.LocateReply (length payload),
        locate_long form.order id (locate_status_of here),
      );
    }

abbrev told : ℕ → ℕ → List Context → Order → List ℕ → ReplyMsg
told id status list order bytes =
    record { id = id; status = status; contexts = list; body = record { order = order; align = 0; bytes = bytes } }

-- the same, where its status and its contexts are named otherwise
pub reply_as : (id : ℕ) (form : Form) (answer : PortAnswer) (bytes : List ℕ) (status : ℕ) (list : List Context) → form.minor < 3 → IsShortBody bytes
    → status ≡ status_of form.minor answer → list ≡ []
    → Writable (messages.Reply (record { id = id; status = status; contexts = list; body = record { order = form.order; align = 0; bytes = bytes } })) form
reply_as id form answer bytes status list minor short status-is none =
    subst (λ (n : ℕ). Writable (messages.Reply (told id n list form.order bytes)) form) (sym status-is)
    (subst (λ (l : List Context). Writable (messages.Reply (told id (status_of form.minor answer) l form.order bytes)) form) (sym none)
    (reply_writable id form answer bytes minor short))
