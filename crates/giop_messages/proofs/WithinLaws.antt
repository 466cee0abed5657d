-- No context, body or rest is longer than the bytes that spell its message.
use Rattle.std.proofs.Common.{◌≡◌, ℕ, ◌+◌, ◌≤◌, List, [], ◌∷◌, ◌++◌, length, sym, ap, subst, ◌∙◌, length-append, arith}
use Rattle.std.proofs.lemmas.List.Elements.{All-nil, All-cons}
use Rattle.std.specs.Prelude.{◌==◌, Bool, true, false, ◌<◌}
use Rattle.cdr_codec.specs.declared.orders.Order.{Order}
use Rattle.cdr_codec.specs.declared.bodies.Raw.{Raw}
use Rattle.cdr_codec.specs.Formats.{Format, Spelling, SpellsEach}
use Rattle.cdr_codec.specs.Structs.{struct}
use Rattle.ft_contexts.specs.declared.lists.Context.{Context}
use Rattle.ft_contexts.specs.Lists.{context}
use Rattle.giop_messages.specs.declared.faults.Why.{Why}
use Rattle.giop_messages.specs.declared.heads.TheConstants.{HEAD_LENGTH}
use Rattle.giop_messages.specs.declared.forms.Form.{Form}
use Rattle.giop_messages.specs.declared.messages.Message.{Message}
use Rattle.giop_messages.specs.declared.messages.Message.TheVariants as messages
use Rattle.giop_messages.specs.declared.requests.RequestHead.{RequestHead}
use Rattle.giop_messages.specs.declared.replies.ReplyHead.{ReplyHead}
use Rattle.giop_messages.specs.Heads.{either}
use Rattle.giop_messages.specs.Fields.{contexts, request_1_0, request_1_1, request_1_2, request_head, reply_fields_1_0, reply_fields_1_2, reply_head}
use Rattle.giop_messages.specs.Messages.{head_of_request, head_of_reply, SpellsBody, SpellsWithBody, SpellsPayload, Spells}
use Rattle.giop_messages.specs.Laws.{AreWithin, IsBodyWithin, ArePartsWithin, IsWithin}
use Rattle.giop_messages.proofs.BodyLaws.{body_aligned}

context_within : (order : Order) (place : ℕ) (x : Context) (bytes : List ℕ) (count : ℕ) → length bytes ≤ count → context.Spelled order place x bytes
    → length x.content ≤ count
context_within order place x bytes count h s =
    omega (arith, h, ap length s.is, length-append s.front s.back, ap length s.second.is, length-append s.second.front x.content)

each_within : (order : Order) (place : ℕ) (xs : List Context) (bytes : List ℕ) (count : ℕ) → length bytes ≤ count → SpellsEach context.Spelled order place xs bytes
    → AreWithin count xs
each_within order place [] bytes count h s = All-nil (λ (c : Context). length c.content ≤ count)
each_within order place (x ∷ xs) bytes count h s =
    let whole : length bytes ≡ length s.0 + length s.1 = ap length s.2 ∙ length-append s.0 s.1 in
    All-cons (λ (c : Context). length c.content ≤ count) x xs (context_within order place x s.0 count (omega (arith, h, whole)) s.3)
    (each_within order (place + length s.0) xs s.1 count (omega (arith, h, whole)) s.4)

contexts_within : (order : Order) (place : ℕ) (xs : List Context) (bytes : List ℕ) (count : ℕ) → length bytes ≤ count → contexts.Spelled order place xs bytes
    → AreWithin count xs
contexts_within order place xs bytes count h s =
    each_within order (place + length s.front) xs s.back count (omega (arith, h, ap length s.is, length-append s.front s.back)) s.each

-- what stands behind a field is within what is there
behind_within : (bytes front back : List ℕ) (count : ℕ) → length bytes ≤ count → bytes ≡ front ++ back → length back ≤ count
behind_within bytes front back count h is = omega (arith, h, ap length is, length-append front back)

front_within : (bytes front back : List ℕ) (count : ℕ) → length bytes ≤ count → bytes ≡ front ++ back → length front ≤ count
front_within bytes front back count h is = omega (arith, h, ap length is, length-append front back)

-- no context among these fields is longer than their bytes
abbrev ContextsAreWithin : {X : Type 0} → (X → List Context) → Spelling X → Type 0
ContextsAreWithin {X} lists spells =
    (order : Order) (place : ℕ) (x : X) (bytes : List ℕ) (count : ℕ) → length bytes ≤ count → spells order place x bytes → AreWithin count (lists x)

request_1_2_within : ContextsAreWithin (λ (x : RequestHead). x.contexts) request_1_2.Spelled
request_1_2_within order place x bytes count h id =
    let flags = id.others in
    let first = flags.others in
    let second = first.others in
    let third = second.others in
    let key = third.others in
    let op = key.others in
    let list = op.others in
    let a = behind_within bytes id.front id.back count h id.is in
    let b = behind_within id.back flags.front flags.back count a flags.is in
    let d = behind_within flags.back first.front first.back count b first.is in
    let e = behind_within first.back second.front second.back count d second.is in
    let f = behind_within second.back third.front third.back count e third.is in
    let g = behind_within third.back key.front key.back count f key.is in
    let k = behind_within key.back op.front op.back count g op.is in
    let m = front_within op.back list.front list.back count k list.is in
    subst (AreWithin count) (sym (ap (λ (r : RequestHead). r.contexts) list.others.0)) (contexts_within _ _ list.value list.front count m list.first)

first_within : (order : Order) (place : ℕ) (xs ys : List Context) (bytes front back : List ℕ) (count : ℕ) → length bytes ≤ count → bytes ≡ front ++ back
    → contexts.Spelled order place xs front → xs ≡ ys → AreWithin count ys
first_within order place xs ys bytes front back count h is spelled same =
    subst (AreWithin count) same (contexts_within order place xs front count (front_within bytes front back count h is) spelled)

request_1_0_within : ContextsAreWithin (λ (x : RequestHead). x.contexts) request_1_0.Spelled
request_1_0_within order place x bytes count h list =
    let id = list.others in
    let flags = id.others in
    let key = flags.others in
    let op = key.others in
    let none = op.others in
    first_within order place list.value x.contexts bytes list.front list.back count h list.is list.first (sym (ap (λ (r : RequestHead). r.contexts) none.others.0))

request_1_1_within : ContextsAreWithin (λ (x : RequestHead). x.contexts) request_1_1.Spelled
request_1_1_within order place x bytes count h list =
    let id = list.others in
    let flags = id.others in
    let one = flags.others in
    let two = one.others in
    let three = two.others in
    let key = three.others in
    let op = key.others in
    let none = op.others in
    first_within order place list.value x.contexts bytes list.front list.back count h list.is list.first (sym (ap (λ (r : RequestHead). r.contexts) none.others.0))

either_within : {X : Type 0} (lists : X → List Context) (b : Bool) (f g : Format Why X) → ContextsAreWithin lists f.Spelled → ContextsAreWithin lists g.Spelled → ContextsAreWithin lists (either b f g).Spelled
either_within lists true f g one other = one
either_within lists false f g one other = other

request_within : (minor : ℕ) → ContextsAreWithin (λ (x : RequestHead). x.contexts) (request_head minor).Spelled
request_within minor =
    either_within (λ (x : RequestHead). x.contexts) (minor == 2) request_1_2 (either (minor == 1) request_1_1 request_1_0) request_1_2_within
    (either_within (λ (x : RequestHead). x.contexts) (minor == 1) request_1_1 request_1_0 request_1_1_within request_1_0_within)

reply_1_2_within : ContextsAreWithin (λ (x : ReplyHead). x.contexts) (struct reply_fields_1_2).Spelled
reply_1_2_within order place x bytes count h id =
    let status = id.others in
    let list = status.others in
    let a = behind_within bytes id.front id.back count h id.is in
    let b = behind_within id.back status.front status.back count a status.is in
    let d = front_within status.back list.front list.back count b list.is in
    subst (AreWithin count) (sym (ap (λ (r : ReplyHead). r.contexts) list.others.0)) (contexts_within _ _ list.value list.front count d list.first)

reply_1_0_within : ContextsAreWithin (λ (x : ReplyHead). x.contexts) (struct reply_fields_1_0).Spelled
reply_1_0_within order place x bytes count h list =
    let id = list.others in
    let status = id.others in
    first_within order place list.value x.contexts bytes list.front list.back count h list.is list.first (sym (ap (λ (r : ReplyHead). r.contexts) status.others.0))

reply_within : (minor : ℕ) → ContextsAreWithin (λ (x : ReplyHead). x.contexts) (reply_head minor).Spelled
reply_within minor = either_within (λ (x : ReplyHead). x.contexts) (minor == 2) (struct reply_fields_1_2) (struct reply_fields_1_0) reply_1_2_within reply_1_0_within

body_within : (form : Form) (place : ℕ) (body : Raw) (bytes : List ℕ) (count : ℕ) → length bytes ≤ count → SpellsBody form place body bytes
    → IsBodyWithin count body
body_within form place body bytes count h s = record {
  aligned = subst (λ (n : ℕ). n < 8) (sym s.aligned) (body_aligned form.minor place body.bytes);
  short = behind_within bytes s.pad body.bytes count h s.is;
}

with_body_within : {X : Type 0} (fields : Spelling X) (form : Form) (x : X) (list : List Context) (body : Raw) (payload : List ℕ) (count : ℕ) → length payload ≤ count
    → ((front : List ℕ) → length front ≤ count → fields form.order HEAD_LENGTH x front → AreWithin count list) → SpellsWithBody fields form x body payload
    → ArePartsWithin count list body
with_body_within fields form x list body payload count h lists s = record {
  contexts = lists s.front (front_within payload s.front s.back count h s.is) s.fields_spelled;
  body = body_within form (HEAD_LENGTH + length s.front) body s.back count (behind_within payload s.front s.back count h s.is) s.body_spelled;
}

payload_within : (form : Form) (m : Message) (payload : List ℕ) (count : ℕ) → length payload ≤ count → SpellsPayload form m payload → IsWithin count m
payload_within form (messages.Request r) payload count h s =
    with_body_within (request_head form.minor).Spelled form (head_of_request r) r.contexts r.body payload count h
    (λ front few spelled. request_within form.minor form.order HEAD_LENGTH (head_of_request r) front count few spelled) s
payload_within form (messages.Reply r) payload count h s =
    with_body_within (reply_head form.minor).Spelled form (head_of_reply r) r.contexts r.body payload count h
    (λ front few spelled. reply_within form.minor form.order HEAD_LENGTH (head_of_reply r) front count few spelled) s
payload_within form (messages.Cancel id) payload count h s = tt
payload_within form (messages.LocateRequest id key) payload count h s = tt
payload_within form (messages.LocateReply id status) payload count h s = tt
payload_within form messages.CloseConnection payload count h s = tt
payload_within form messages.MessageError payload count h s = tt
payload_within form (messages.Fragment id rest) payload count h s = behind_within payload s.front rest count h s.is

pub message_within : (bytes : List ℕ) (form : Form) (m : Message) → Spells bytes form m → IsWithin (length bytes) m
message_within bytes form m s =
    payload_within form m s.payload (length bytes)
    (omega (arith, ap length s.is, length-append (s.front ++ s.payload) s.more, length-append s.front s.payload)) s.fields_spelled
