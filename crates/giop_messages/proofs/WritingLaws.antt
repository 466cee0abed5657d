-- What is written spells its message, and is read back.
use Rattle.std.proofs.Common.{◌≡◌, ℕ, ◌+◌, ◌<◌, ◌^◌, ◌==◌, Bool, true, false, cond, Option, List, [], ◌∷◌, ◌++◌, length, Some, Result, Ok, Err, IfOk, refl, sym, ap, subst, ◌∙◌, append-nil, length-append, lit<, arith}
use Rattle.std.specs.List.{AllByRecursion, find}
use Rattle.std.proofs.lemmas.List.Elements.{recursion_from_All}
use Rattle.std.specs.Prelude.{◌&&◌, ◌||◌, nat_lt, None}
use Rattle.std.proofs.lemmas.Bool.{ltb-true}
use Rattle.ft_base.specs.declared.memory.NoMemory.{NoMemory}
use Rattle.ft_base.specs.Canonical.{padding}
use Rattle.cdr_codec.specs.declared.orders.Order.{Order}
use Rattle.cdr_codec.specs.declared.orders.Order.TheVariants.{Big, Little}
use Rattle.cdr_codec.specs.declared.bodies.Raw.{Raw}
use Rattle.cdr_codec.specs.Orders.{order_sign, order_of}
use Rattle.cdr_codec.specs.Formats.{Format}
use Rattle.cdr_codec.specs.Laws.{IsCodec}
use Rattle.cdr_codec.specs.Structs.{struct}
use Rattle.cdr_codec.proofs.ValueLaws.{text_valid, boolean_valid}
use Rattle.ft_contexts.specs.declared.lists.Context.{Context}
use Rattle.ft_contexts.specs.Lists.{context}
use Rattle.giop_messages.specs.declared.heads.TheConstants.{HEAD_LENGTH}
use Rattle.giop_messages.specs.declared.faults.Why.{Why}
use Rattle.giop_messages.specs.declared.faults.Why.TheVariants as causes
use Rattle.giop_messages.specs.declared.forms.Form.{Form}
use Rattle.giop_messages.specs.declared.heads.Kind.{Kind}
use Rattle.giop_messages.specs.declared.heads.Kind.TheVariants as kinds
use Rattle.giop_messages.specs.declared.heads.Head.{Head}
use Rattle.giop_messages.specs.declared.messages.Message.{Message}
use Rattle.giop_messages.specs.declared.messages.Message.TheVariants as messages
use Rattle.giop_messages.specs.declared.messages.RequestMsg.{RequestMsg}
use Rattle.giop_messages.specs.declared.messages.ReplyMsg.{ReplyMsg}
use Rattle.giop_messages.specs.Heads.{either, kind_sign, kind, version, has_kind, head, if_flags_fit, head_in, header}
use Rattle.giop_messages.specs.Addresses.{address}
use Rattle.giop_messages.specs.Fields.{request_id, reserved, response_expected, response_flags, contexts, request_1_0, request_1_1, request_1_2, request_head, statuses_1_0, statuses_1_2, reply_fields_1_0, reply_fields_1_2, reply_head, object_key, locate_request, locate_statuses, locate_reply}
use Rattle.giop_messages.specs.Messages.{giop, kind_in, head_of_request, head_of_reply, body_boundary, SpellsWithBody, SpellsFields, SpellsPayload, Spells, message_in}
use Rattle.giop_messages.specs.Writing.{padded_body, with_body, written_payload, whole_head, written_message, end_of, AreContexts, IsBodyFor, IsOp, IsRequest, IsAmong, IsReply, HasFields, Writable, AreNumbered, IsNumberedRequest, IsNumberedReply, IsNumbered}
use Rattle.giop_messages.proofs.Codecs.{ReferenceCodecs, head_codec, header_codec, request_id_codec, request_head_codec, reply_head_codec, locate_request_codec, locate_reply_codec}
use Rattle.giop_messages.proofs.BodyLaws.{body_spells}
use Rattle.giop_messages.proofs.MessageLaws.{head_again, message_again}

-- ---- what has a spelling

each_valid : (cs : List Context) → AllByRecursion (λ (c : Context). c.id < 2 ^ 32) cs → AllByRecursion (λ (c : Context). length c.content < 2 ^ 32) cs
    → AllByRecursion context.Valid cs
each_valid [] ids contents = tt
each_valid (c ∷ cs) ids contents = ((ids.0, contents.0), each_valid cs ids.1 contents.1)

one_of : (b : Bool) (x n : ℕ) (o : Option ℕ) → x < 2 ^ 32 → (o ≡ Some n → n < 2 ^ 32) → cond {A = Option ℕ} b (Some x) o ≡ Some n → n < 2 ^ 32
one_of true x n o small rest h = let same : x ≡ n = cc in subst (λ (m : ℕ). m < 2 ^ 32) same small
one_of false x n o small rest h = rest h

-- a number that stands in a list of small ones is small
found_below : (xs : List ℕ) (n : ℕ) → AllByRecursion (λ (x : ℕ). x < 2 ^ 32) xs → IsAmong xs n → n < 2 ^ 32
found_below [] n small h = absurd cc
found_below (x ∷ xs) n small h = one_of (x == n) x n (find (λ (y : ℕ). y == n) xs) small.0 (found_below xs n small.1) h

contexts_valid : (cs : List Context) → AreContexts cs → AreNumbered cs → contexts.Valid cs
contexts_valid cs h ids =
    (h.count, each_valid cs (recursion_from_All (λ (c : Context). c.id < 2 ^ 32) cs ids) (recursion_from_All (λ (c : Context). length c.content < 2 ^ 32) cs h.contents))

reserved_valid : reserved.Valid tt
reserved_valid = (lit< tt, refl)

address_valid : (key : List ℕ) → length key < 2 ^ 32 → address.Valid key
address_valid key h = ((lit< tt, (h, refl)), refl)

either_valid : {X : Type 0} (b : Bool) (f g : Format Why X) (x : X) → (b ≡ true → f.Valid x) → (b ≡ false → g.Valid x) → (either b f g).Valid x
either_valid true f g x one other = one refl
either_valid false f g x one other = other refl

response_expected_valid : (flags : ℕ) → response_flags (flags == 3) ≡ flags → response_expected.Valid flags
response_expected_valid flags is = (boolean_valid (flags == 3), ap (λ (n : ℕ). Some n) is)

request_1_0_valid : (r : RequestMsg) → IsNumberedRequest r → AreContexts r.contexts → length r.key < 2 ^ 32 → IsOp r.op → response_flags (r.flags == 3) ≡ r.flags
    → request_1_0.Valid (head_of_request r)
request_1_0_valid r n list key op flags =
    (contexts_valid r.contexts list n.contexts, (n.id, (response_expected_valid r.flags flags, (key, (text_valid r.op op.no_zero op.short, ((lit< tt, refl), refl))))))

request_1_1_valid : (r : RequestMsg) → IsNumberedRequest r → AreContexts r.contexts → length r.key < 2 ^ 32 → IsOp r.op → response_flags (r.flags == 3) ≡ r.flags
    → request_1_1.Valid (head_of_request r)
request_1_1_valid r n list key op flags = (
  contexts_valid r.contexts list n.contexts,
  (
    n.id,
    (
      response_expected_valid r.flags flags,
      (reserved_valid, (reserved_valid, (reserved_valid, (key, (text_valid r.op op.no_zero op.short, ((lit< tt, refl), refl)))))),
    ),
  ),
)

request_1_2_valid : (r : RequestMsg) → IsNumberedRequest r → AreContexts r.contexts → length r.key < 2 ^ 32 → IsOp r.op → request_1_2.Valid (head_of_request r)
request_1_2_valid r n list key op = (
  n.id,
  (
    n.flags,
    (
      reserved_valid,
      (
        reserved_valid,
        (
          reserved_valid,
          (address_valid r.key key, (text_valid r.op op.no_zero op.short, (contexts_valid r.contexts list n.contexts, refl))),
        ),
      ),
    ),
  ),
)

-- the flags of 1.0 and 1.1
flags_if : (b : Bool) (flags : ℕ) → cond b flags (response_flags (flags == 3)) ≡ flags → b ≡ false → response_flags (flags == 3) ≡ flags
flags_if true flags e old = absurd cc
flags_if false flags e old = e

request_valid : (form : Form) (r : RequestMsg) → IsNumberedRequest r → IsRequest form r → (request_head form.minor).Valid (head_of_request r)
request_valid form r n h =
    either_valid (form.minor == 2) request_1_2 (either (form.minor == 1) request_1_1 request_1_0) (head_of_request r)
    (λ new. request_1_2_valid r n h.contexts h.key h.op)
    (λ old. either_valid (form.minor == 1) request_1_1 request_1_0 (head_of_request r)
    (λ one. request_1_1_valid r n h.contexts h.key h.op (flags_if (form.minor == 2) r.flags h.flags old))
    (λ zero. request_1_0_valid r n h.contexts h.key h.op (flags_if (form.minor == 2) r.flags h.flags old)))

-- each status of a Reply fits an unsigned long
new_fits : (n : ℕ) → IsAmong statuses_1_2 n → n < 2 ^ 32
new_fits n h = found_below statuses_1_2 n (lit< tt, (lit< tt, (lit< tt, (lit< tt, (lit< tt, (lit< tt, tt)))))) h

old_fits : (n : ℕ) → IsAmong statuses_1_0 n → n < 2 ^ 32
old_fits n h = found_below statuses_1_0 n (lit< tt, (lit< tt, (lit< tt, (lit< tt, tt)))) h

among_new : (b : Bool) (n : ℕ) → IsAmong (cond b statuses_1_2 statuses_1_0) n → b ≡ true → IsAmong statuses_1_2 n
among_new true n h new = h
among_new false n h new = absurd cc

among_old : (b : Bool) (n : ℕ) → IsAmong (cond b statuses_1_2 statuses_1_0) n → b ≡ false → IsAmong statuses_1_0 n
among_old true n h old = absurd cc
among_old false n h old = h

reply_valid : (form : Form) (r : ReplyMsg) → IsNumberedReply r → IsReply form r → (reply_head form.minor).Valid (head_of_reply r)
reply_valid form r n h =
    either_valid (form.minor == 2) (struct reply_fields_1_2) (struct reply_fields_1_0) (head_of_reply r)
    (λ new.
    let status = among_new (form.minor == 2) r.status h.status new in
    (n.id, ((new_fits r.status status, status), (contexts_valid r.contexts h.contexts n.contexts, refl))))
    (λ old.
    let status = among_old (form.minor == 2) r.status h.status old in
    (contexts_valid r.contexts h.contexts n.contexts, (n.id, ((old_fits r.status status, status), refl))))

locate_request_valid : (minor id : ℕ) (key : List ℕ) → id < 2 ^ 32 → length key < 2 ^ 32 → (locate_request minor).Valid (id, key)
locate_request_valid minor id key n h = (n, either_valid (minor == 2) address object_key key (λ new. address_valid key h) (λ old. h))

locate_reply_valid : (id status : ℕ) → id < 2 ^ 32 → IsAmong locate_statuses status → locate_reply.Valid (id, status)
locate_reply_valid id status n h = (n, (found_below locate_statuses status (lit< tt, (lit< tt, tt)) h, h))

-- ---- headers

fragment_there : (b d : Bool) → (b && (d || false)) ≡ true → find (λ (k : Kind). kind_sign k == 7) (cond d (kinds.Fragment ∷ []) []) ≡ Some kinds.Fragment
fragment_there true true e = refl
fragment_there true false e = absurd cc
fragment_there false d e = absurd cc

kind_valid : (minor : ℕ) (k : Kind) → has_kind minor k ≡ true → (kind minor).Valid k
kind_valid minor kinds.Request there = (lit< tt, refl)
kind_valid minor kinds.Reply there = (lit< tt, refl)
kind_valid minor kinds.CancelRequest there = (lit< tt, refl)
kind_valid minor kinds.LocateRequest there = (lit< tt, refl)
kind_valid minor kinds.LocateReply there = (lit< tt, refl)
kind_valid minor kinds.CloseConnection there = (lit< tt, refl)
kind_valid minor kinds.MessageError there = (lit< tt, refl)
kind_valid minor kinds.Fragment there = (lit< tt, fragment_there (nat_lt minor 3) (minor == 2) there)

first_true : (b d : Bool) → (b && d) ≡ true → b ≡ true
first_true true d e = refl
first_true false d e = e

known : (minor : ℕ) (k : Kind) → has_kind minor k ≡ true → nat_lt minor 3 ≡ true
known minor k there = first_true (nat_lt minor 3) _ there

named : (b : Bool) (minor : ℕ) → b ≡ true → cond {A = Option ℕ} b (Some minor) None ≡ Some minor
named b minor e = rw e refl

version_valid : (minor : ℕ) → nat_lt minor 3 ≡ true → version.Valid minor
version_valid minor there =
    let small : minor < 3 = ltb-true minor 3 there in
    ((lit< tt, omega arith), named (nat_lt minor 3) minor there)

head_valid : (h : Head) → has_kind h.minor h.kind ≡ true → h.flags < 256 → h.size < 2 ^ 32 → head.Valid h
head_valid h there flags size = (
  (lit< tt, refl),
  (
    (lit< tt, refl),
    (
      (lit< tt, refl),
      ((lit< tt, refl), (version_valid h.minor (known h.minor h.kind there), (flags, (kind_valid h.minor h.kind there, (size, refl))))),
    ),
  ),
)

-- a header that is written is read again
pub head_back : (h : Head) (more : List ℕ) → has_kind h.minor h.kind ≡ true → h.flags < 256 → h.size < 2 ^ 32 → head_in (header.written Big 0 h ++ more) ≡ Ok h
head_back h more there flags size =
    head_again (header.written Big 0 h ++ more) h
    (record { front = header.written Big 0 h; more = more; is = refl; spelled = head_codec.spells Big 0 h (head_valid h there flags size) })

no_parts : (minor : ℕ) (order : Order) (k : Kind) (size : ℕ)
    → if_flags_fit (whole_head (giop minor order) k size) ≡ Some (whole_head (giop minor order) k size)
no_parts minor Big k size = refl
no_parts minor Little k size = refl

sign_small : (order : Order) → order_sign order < 256
sign_small Big = lit< tt
sign_small Little = lit< tt

header_valid : (form : Form) (k : Kind) (size : ℕ) → has_kind form.minor k ≡ true → size < 2 ^ 32 → header.Valid (whole_head form k size)
header_valid form k size there h = (head_valid (whole_head form k size) there (sign_small form.order) h, no_parts form.minor form.order k size)

sign_means : (order : Order) → order ≡ order_of (order_sign order)
sign_means Big = refl
sign_means Little = refl

-- ---- the fields

fields_written : {X : Type 0} (f : Format Why X) → IsCodec causes.Short f → (order : Order) (x : X) → f.Valid x → SpellsFields f.Spelled order x (f.written order HEAD_LENGTH x)
fields_written f law order x h = record {
  front = f.written order HEAD_LENGTH x;
  more = [];
  is = sym (append-nil (f.written order HEAD_LENGTH x));
  fields_spelled = law.spells order HEAD_LENGTH x h;
}

with_body_written : {X : Type 0} (f : Format Why X) → IsCodec causes.Short f → (form : Form) (x : X) (body : Raw) → f.Valid x
    → IsBodyFor form (end_of (f.written form.order HEAD_LENGTH x)) body
    → SpellsWithBody f.Spelled form x body (with_body form.minor HEAD_LENGTH (f.written form.order HEAD_LENGTH x) body)
with_body_written f law form x body h b =
    let front = f.written form.order HEAD_LENGTH x in
    record {
      front = front;
      back = padded_body (padding (HEAD_LENGTH + length front) (body_boundary form.minor)) body.bytes;
      is = refl;
      fields_spelled = law.spells form.order HEAD_LENGTH x h;
      body_spelled = body_spells form (HEAD_LENGTH + length front) body b.ordered b.aligned;
    }

payload_spells : ReferenceCodecs → (m : Message) (form : Form) → IsNumbered m → HasFields form m → SpellsPayload form m (written_payload form m)
payload_spells laws (messages.Request r) form n h =
    with_body_written (request_head form.minor) (request_head_codec laws form.minor) form (head_of_request r) r.body (request_valid form r n h) h.body
payload_spells laws (messages.Reply r) form n h =
    with_body_written (reply_head form.minor) (reply_head_codec form.minor) form (head_of_reply r) r.body (reply_valid form r n h) h.body
payload_spells laws (messages.Cancel id) form n h = fields_written request_id request_id_codec form.order id n
payload_spells laws (messages.LocateRequest id key) form n h =
    fields_written (locate_request form.minor) (locate_request_codec laws form.minor) form.order (id, key) (locate_request_valid form.minor id key n h)
payload_spells laws (messages.LocateReply id status) form n h =
    fields_written locate_reply locate_reply_codec form.order (id, status) (locate_reply_valid id status n h)
payload_spells laws messages.CloseConnection form n h = tt
payload_spells laws messages.MessageError form n h = tt
payload_spells laws (messages.Fragment id rest) form n h = record {
  front = request_id.written form.order HEAD_LENGTH id;
  is = refl;
  id_spelled = request_id_codec.spells form.order HEAD_LENGTH id n;
}

-- ---- the whole message

-- what is written spells the message
pub message_spells : ReferenceCodecs → (m : Message) (form : Form) → IsNumbered m → Writable m form → Spells (written_message m form) form m
message_spells laws m form n w =
    let payload = written_payload form m in
    let h = whole_head form (kind_in m) (length payload) in
    let front = header.written Big 0 h in
    let small : length payload < 2 ^ 32 = omega (arith, w.sized, length-append front payload) in
    record {
      flags = order_sign form.order;
      front = front;
      payload = payload;
      more = [];
      is = sym (append-nil (front ++ payload));
      ordered = sign_means form.order;
      possible = w.possible;
      head_spelled = header_codec.spells Big 0 h (header_valid form (kind_in m) (length payload) w.possible small);
      fields_spelled = payload_spells laws m form n w.fields;
    }

-- and is read back
pub message_back : ReferenceCodecs → (m : Message) (form : Form) → IsNumbered m → Writable m form → message_in (written_message m form) ≡ Ok (m, form)
message_back laws m form n w = message_again laws (written_message m form) m form (message_spells laws m form n w)

-- ---- a call's answers

pub is_spelled : ReferenceCodecs → (m : Message) (form : Form) (result : Result (List ℕ) NoMemory) → IfOk result (λ bytes. IsNumbered m) → Writable m form
    → IfOk result (λ bytes. bytes ≡ written_message m form) → IfOk result (λ bytes. Spells bytes form m)
is_spelled laws m form (Ok bytes) n w h = subst (λ (l : List ℕ). Spells l form m) (sym h) (message_spells laws m form n w)
is_spelled laws m form (Err e) n w h = tt

pub is_read_back : ReferenceCodecs → (m : Message) (form : Form) (result : Result (List ℕ) NoMemory) → IfOk result (λ bytes. IsNumbered m) → Writable m form
    → IfOk result (λ bytes. bytes ≡ written_message m form) → IfOk result (λ bytes. message_in bytes ≡ Ok (m, form))
is_read_back laws m form (Ok bytes) n w h = ap message_in h ∙ message_back laws m form n w
is_read_back laws m form (Err e) n w h = tt
