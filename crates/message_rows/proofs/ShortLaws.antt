-- Short messages of GIOP 1.2 can be written: with its header none is over 1 MiB.
use Rattle.std.proofs.Common.{◌≡◌, ◌≤◌, ◌<◌, ◌^◌, ℕ, ◌+◌, ◌%◌, List, [], ◌∷◌, ◌++◌, length, replicate, refl, ap, length-append, arith, lit≤, lit<}
use Rattle.std.proofs.lemmas.List.{length-replicate}
use Rattle.std.proofs.lemmas.List.Elements.{All-cons, All-nil}
use Rattle.ft_base.specs.Canonical.{padding}
use Rattle.cdr_codec.specs.declared.orders.Order.{Order}
use Rattle.cdr_codec.specs.declared.orders.Order.TheVariants.{Big, Little}
use Rattle.cdr_codec.specs.Reading.{digits_in}
use Rattle.cdr_codec.specs.Formats.{written_number, octets}
use Rattle.cdr_codec.specs.Values.{text}
use Rattle.ft_contexts.specs.declared.lists.Context.{Context}
use Rattle.ft_contexts.specs.Lists.{context}
use Rattle.giop_messages.specs.declared.heads.TheConstants.{HEAD_LENGTH, MESSAGE_LIMIT}
use Rattle.giop_messages.specs.declared.heads.Kind.{Kind}
use Rattle.giop_messages.specs.declared.messages.Message.{Message}
use Rattle.giop_messages.specs.declared.messages.Message.TheVariants as messages
use Rattle.giop_messages.specs.declared.messages.RequestMsg.{RequestMsg}
use Rattle.giop_messages.specs.declared.messages.ReplyMsg.{ReplyMsg}
use Rattle.giop_messages.specs.Heads.{header}
use Rattle.giop_messages.specs.Addresses.{address}
use Rattle.giop_messages.specs.Fields.{request_id, contexts, request_head, reply_head}
use Rattle.giop_messages.specs.Messages.{giop, kind_in, head_of_request, head_of_reply}
use Rattle.giop_messages.specs.Writing.{padded_body, whole_head, written_message, written_payload, AreContexts, Writable}
use Rattle.message_rows.specs.Short.{AreFew, IsPart, IsShortRequest, IsShortReply}

headed : (order : Order) (kind : Kind) (size : ℕ) → length (header.written Big 0 (whole_head (giop 2 order) kind size)) ≡ HEAD_LENGTH
headed Big kind size = refl
headed Little kind size = refl

four_digits : (order : Order) (n : ℕ) → length (digits_in order 4 n) ≡ 4
four_digits Big n = refl
four_digits Little n = refl

two_digits : (order : Order) (n : ℕ) → length (digits_in order 2 n) ≡ 2
two_digits Big n = refl
two_digits Little n = refl

number_bound : (order : Order) (place n : ℕ) → length (written_number 4 order place n) ≤ 7
number_bound order place n =
    omega (arith, length-append (replicate (padding place 4) 0) (digits_in order 4 n), length-replicate {A = ℕ} (padding place 4) 0, four_digits order n)

two_bound : (order : Order) (place n : ℕ) → length (written_number 2 order place n) ≤ 3
two_bound order place n =
    omega (arith, length-append (replicate (padding place 2) 0) (digits_in order 2 n), length-replicate {A = ℕ} (padding place 2) 0, two_digits order n)

octets_bound : (order : Order) (place : ℕ) (xs : List ℕ) → length (octets.written order place xs) ≤ length xs + 7
octets_bound order place xs =
    omega (arith, length-append (written_number 4 order place (length xs)) xs, number_bound order place (length xs))

text_bound : (order : Order) (place : ℕ) (xs : List ℕ) → length (text.written order place xs) ≤ length xs + 8
text_bound order place xs = omega (arith, octets_bound order place (xs ++ 0 ∷ []), length-append xs (0 ∷ []))

context_bound : (order : Order) (place : ℕ) (c : Context) → length (context.written order place c) ≤ length c.content + 14
context_bound order place c =
    let id = written_number 4 order place c.id in
    let at = place + length id in
    omega (arith, length-append id (octets.written order at c.content), number_bound order place c.id, octets_bound order at c.content)

contexts_bound : (order : Order) (place : ℕ) (cs : List Context) → AreFew cs → length (contexts.written order place cs) ≤ 65557
contexts_bound order place [] h =
    let count = written_number 4 order place 0 in
    omega (arith, length-append count [], number_bound order place 0)
contexts_bound order place (c ∷ []) h =
    let count = written_number 4 order place 1 in
    let at = place + length count in
    let first = context.written order at c in
    omega (arith, length-append count (first ++ []), length-append first [], number_bound order place 1, context_bound order at c, h)
contexts_bound order place (c ∷ d ∷ more) h = absurd h

body_bound : (place : ℕ) (body : List ℕ) → length (padded_body (padding place 8) body) ≤ length body + 7
body_bound place [] = lit≤ tt
body_bound place (b ∷ bs) = omega (arith, length-append (replicate (padding place 8) 0) (b ∷ bs), length-replicate {A = ℕ} (padding place 8) 0)

-- with its header
sized : (message : Message) (order : Order) → length (written_payload (giop 2 order) message) + HEAD_LENGTH ≤ MESSAGE_LIMIT → length (written_message message (giop 2 order)) ≤ MESSAGE_LIMIT
sized message order h =
    let payload = written_payload (giop 2 order) message in
    let front = header.written Big 0 (whole_head (giop 2 order) (kind_in message) (length payload)) in
    omega (arith, length-append front payload, headed order (kind_in message) (length payload), h)

abbrev IsCounted : Context → Type 0
IsCounted c = length c.content < 2 ^ 32

are_contexts : (cs : List Context) → AreFew cs → AreContexts cs
are_contexts [] h = record { count = lit< tt; contents = All-nil IsCounted }
are_contexts (c ∷ []) h = record { count = lit< tt; contents = All-cons IsCounted c [] (omega (arith, h)) (All-nil IsCounted) }
are_contexts (c ∷ d ∷ more) h = absurd h

-- ---- requests

address_bound : (order : Order) (place : ℕ) (key : List ℕ) → length (address.written order place key) ≤ length key + 10
address_bound order place key =
    let form = written_number 2 order place 0 in
    let at = place + length form in
    omega (arith, length-append form (octets.written order at key), two_bound order place 0, octets_bound order at key)

abbrev target : Order → RequestMsg → List ℕ
target order r = address.written order 20 r.key

abbrev operation : Order → RequestMsg → List ℕ
operation order r = text.written order (20 + length (target order r)) r.op

abbrev told : Order → RequestMsg → List ℕ
told order r = contexts.written order ((20 + length (target order r)) + length (operation order r)) r.contexts

-- behind the id, the flags and three reserved octets
abbrev texts : Order → RequestMsg → List ℕ
texts order r = target order r ++ (operation order r ++ (told order r ++ []))

request_is : (order : Order) (r : RequestMsg)
    → (request_head 2).written order HEAD_LENGTH (head_of_request r) ≡ request_id.written order HEAD_LENGTH r.id ++ (r.flags % 256 ∷ 0 ∷ 0 ∷ 0 ∷ texts order r)
request_is Big r = refl
request_is Little r = refl

texts_bound : (order : Order) (r : RequestMsg) → IsShortRequest order r → length (texts order r) ≤ 196647
texts_bound order r h =
    let op_at = 20 + length (target order r) in
    let at = op_at + length (operation order r) in
    omega (
      arith,
      length-append (target order r) (operation order r ++ (told order r ++ [])),
      length-append (operation order r) (told order r ++ []),
      length-append (told order r) [],
      address_bound order 20 r.key,
      text_bound order op_at r.op,
      contexts_bound order at r.contexts h.contexts,
      h.key,
      h.op,
    )

request_bound : (order : Order) (r : RequestMsg) → IsShortRequest order r → length ((request_head 2).written order HEAD_LENGTH (head_of_request r)) ≤ 196658
request_bound order r h =
    let id = request_id.written order HEAD_LENGTH r.id in
    omega (
      arith,
      ap (λ (l : List ℕ). length l) (request_is order r),
      length-append id (r.flags % 256 ∷ 0 ∷ 0 ∷ 0 ∷ texts order r),
      number_bound order HEAD_LENGTH r.id,
      texts_bound order r h,
    )

request_sized : (order : Order) (r : RequestMsg) → IsShortRequest order r → length (written_payload (giop 2 order) (messages.Request r)) + HEAD_LENGTH ≤ MESSAGE_LIMIT
request_sized order r h =
    let front = (request_head 2).written order HEAD_LENGTH (head_of_request r) in
    let at = HEAD_LENGTH + length front in
    omega (arith, length-append front (padded_body (padding at 8) r.body.bytes), request_bound order r h, body_bound at r.body.bytes, h.body.short)

pub request_writable : (r : RequestMsg) (order : Order) → IsShortRequest order r → Writable (messages.Request r) (giop 2 order)
request_writable r order h = record {
  possible = refl;
  fields = record {
    flags = refl;
    key = omega (arith, h.key);
    op = record { no_zero = h.no_zero; short = omega (arith, h.op) };
    contexts = are_contexts r.contexts h.contexts;
    body = record { ordered = h.body.ordered; aligned = h.body.aligned; short = omega (arith, h.body.short) };
  };
  sized = sized (messages.Request r) order (request_sized order r h);
}

-- ---- replies

reply_is : (order : Order) (r : ReplyMsg)
    → request_id.written order HEAD_LENGTH r.id ++ (written_number 4 order 16 r.status ++ (contexts.written order 20 r.contexts ++ []))
    ≡ (reply_head 2).written order HEAD_LENGTH (head_of_reply r)
reply_is Big r = refl
reply_is Little r = refl

reply_bound : (order : Order) (r : ReplyMsg) → AreFew r.contexts → length ((reply_head 2).written order HEAD_LENGTH (head_of_reply r)) ≤ 65571
reply_bound order r h =
    let id = request_id.written order HEAD_LENGTH r.id in
    let status = written_number 4 order 16 r.status in
    let all = contexts.written order 20 r.contexts in
    omega (
      arith,
      ap (λ (l : List ℕ). length l) (reply_is order r),
      length-append id (status ++ (all ++ [])),
      length-append status (all ++ []),
      length-append all [],
      number_bound order HEAD_LENGTH r.id,
      number_bound order 16 r.status,
      contexts_bound order 20 r.contexts h,
    )

reply_sized : (order : Order) (r : ReplyMsg) → IsShortReply order r → length (written_payload (giop 2 order) (messages.Reply r)) + HEAD_LENGTH ≤ MESSAGE_LIMIT
reply_sized order r h =
    let front = (reply_head 2).written order HEAD_LENGTH (head_of_reply r) in
    let at = HEAD_LENGTH + length front in
    omega (arith, length-append front (padded_body (padding at 8) r.body.bytes), reply_bound order r h.contexts, body_bound at r.body.bytes, h.body.short)

pub reply_writable : (r : ReplyMsg) (order : Order) → IsShortReply order r → Writable (messages.Reply r) (giop 2 order)
reply_writable r order h = record {
  possible = refl;
  fields = record {
    status = h.status;
    contexts = are_contexts r.contexts h.contexts;
    body = record { ordered = h.body.ordered; aligned = h.body.aligned; short = omega (arith, h.body.short) };
  };
  sized = sized (messages.Reply r) order (reply_sized order r h);
}

-- ---- the other messages

locate_sized : (order : Order) (id : ℕ) (key : List ℕ) → IsPart key → length (written_payload (giop 2 order) (messages.LocateRequest id key)) + HEAD_LENGTH ≤ MESSAGE_LIMIT
locate_sized order id key h =
    let front = request_id.written order HEAD_LENGTH id in
    let at = HEAD_LENGTH + length front in
    omega (arith, length-append front (address.written order at key), number_bound order HEAD_LENGTH id, address_bound order at key, h)

pub locate_writable : (id : ℕ) (key : List ℕ) (order : Order) → IsPart key → Writable (messages.LocateRequest id key) (giop 2 order)
locate_writable id key order h = record {
  possible = refl;
  fields = omega (arith, h);
  sized = sized (messages.LocateRequest id key) order (locate_sized order id key h);
}

fragment_sized : (order : Order) (id : ℕ) (rest : List ℕ) → IsPart rest → length (written_payload (giop 2 order) (messages.Fragment id rest)) + HEAD_LENGTH ≤ MESSAGE_LIMIT
fragment_sized order id rest h =
    let front = request_id.written order HEAD_LENGTH id in
    omega (arith, length-append front rest, number_bound order HEAD_LENGTH id, h)

pub fragment_writable : (id : ℕ) (rest : List ℕ) (order : Order) → IsPart rest → Writable (messages.Fragment id rest) (giop 2 order)
fragment_writable id rest order h = record {
  possible = refl;
  fields = omega (arith, h);
  sized = sized (messages.Fragment id rest) order (fragment_sized order id rest h);
}
