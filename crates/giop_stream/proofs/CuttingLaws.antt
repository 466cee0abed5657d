-- A message that is cut into parts streams as the whole one, behind the messages between its parts.
use Rattle.std.proofs.Common.{◌≡◌, ℕ, zero, ◌+◌, ◌<◌, ◌≤◌, ◌^◌, ◌++◌, ◌∷◌, [], Bool, true, false, cond, List, length, drop, Option, Some, None, Result, Ok, Err, refl, sym, ap, subst, ◌∙◌, arith, lit<, append_assoc, length-append}
use Rattle.std.specs.Prelude.{◌%◌, ◌==◌, flat_map, nat_lt, not}
use Rattle.std.proofs.Math.ListN.{drop_of_length-le}
use Rattle.std.proofs.lemmas.Bool.{cond-false, eq-eqb, le-ltb}
use Rattle.std.proofs.lemmas.List.{append-nil, drop_at, take_all}
use Rattle.cdr_codec.specs.declared.orders.Order.{Order}
use Rattle.cdr_codec.specs.declared.orders.Order.TheVariants.{Big, Little}
use Rattle.cdr_codec.specs.Reading.{Read, digits_in, reader_at, ◌>>=◌}
use Rattle.cdr_codec.specs.Orders.{order_of, order_sign}
use Rattle.cdr_codec.specs.Formats.{lift}
use Rattle.cdr_codec.proofs.Codecs.{number_codec}
use Rattle.cdr_codec.proofs.Steps.{done}
use Rattle.giop_messages.specs.declared.faults.Why.{Why}
use Rattle.giop_messages.specs.declared.forms.Form.{Form}
use Rattle.giop_messages.specs.declared.heads.Head.{Head}
use Rattle.giop_messages.specs.declared.heads.Kind.{Kind}
use Rattle.giop_messages.specs.declared.heads.Kind.TheVariants as kinds
use Rattle.giop_messages.specs.declared.heads.TheConstants.{HEAD_LENGTH, MESSAGE_LIMIT}
use Rattle.giop_messages.specs.Faults.{up}
use Rattle.giop_messages.specs.Fields.{request_id}
use Rattle.giop_messages.specs.Heads.{has_kind, has_parts, head_in, header, more_in}
use Rattle.giop_messages.specs.Messages.{giop, fields_in, form_of, kind_in}
use Rattle.giop_messages.specs.Writing.{whole_head, written_payload}
use Rattle.giop_messages.specs.Laws.{MessagesAreReadBack}
use Rattle.giop_stream.specs.declared.begun.TheConstants.{FRAGMENT_HEAD}
use Rattle.giop_stream.specs.declared.faults.StreamFault.{StreamFault}
use Rattle.giop_stream.specs.declared.faults.StreamFault.TheVariants as faults
use Rattle.giop_stream.specs.declared.fronts.Front.TheVariants.{Whole}
use Rattle.giop_stream.specs.Faults.{told}
use Rattle.giop_stream.specs.Fronts.{framed, front, total}
use Rattle.giop_stream.specs.Parts.{Begun, Fails, Gives, Joins, Received, Turn, begins, begins_by, fragment, fragment_at, fragment_by, gave, grown, grows_at, id_in, is_fragment, joined_size, message_of, place_of, turn}
use Rattle.giop_stream.specs.Streams.{Rest, behind, stream, stream_on, turned}
use Rattle.giop_stream.specs.Written.{IsWritable, written}
use Rattle.giop_stream.specs.Cutting.{AreSent, Further, IsCut, Other, Sent, fragment_of, other_in, part, part_head, rest_in, sent_bytes}
use Rattle.giop_stream.proofs.StreamLaws.{no_part, whole_part}
use Rattle.giop_stream.proofs.SpelledLaws.{Laws, fields_if, form_means, length_digits, sign_fits, sign_small, twelve}
use Rattle.giop_stream.proofs.WrittenLaws.{front_of_written, message_of_written, written_first}

-- ---- the header of a part

part_twelve : (order : Order) (kind : Kind) (more : Bool) (size : ℕ) → length (header.written Big 0 (part_head order kind more size)) ≡ HEAD_LENGTH
part_twelve Big kind true size = refl
part_twelve Big kind false size = refl
part_twelve Little kind true size = refl
part_twelve Little kind false size = refl

part_small : (order : Order) (kind : Kind) (more : Bool) (size : ℕ) → (part_head order kind more size).flags < 256
part_small Big kind true size = lit< tt
part_small Big kind false size = lit< tt
part_small Little kind true size = lit< tt
part_small Little kind false size = lit< tt

part_order : (order : Order) (kind : Kind) (more : Bool) (size : ℕ) → order_of (part_head order kind more size).flags ≡ order
part_order Big kind true size = refl
part_order Big kind false size = refl
part_order Little kind true size = refl
part_order Little kind false size = refl

part_more : (order : Order) (kind : Kind) (more : Bool) (size : ℕ) → more_in (part_head order kind more size) ≡ more
part_more Big kind true size = refl
part_more Big kind false size = refl
part_more Little kind true size = refl
part_more Little kind false size = refl

passes_tests : (h : Head) (b c d : Bool) (x y z : StreamFault) → b ≡ false → c ≡ false → d ≡ false
    → cond {A = Result Head StreamFault} b (Err x) (cond c (Err y) (cond d (Err z) (Ok h))) ≡ Ok h
passes_tests h true c d x y z p q r = absurd cc
passes_tests h false true d x y z p q r = absurd cc
passes_tests h false false true x y z p q r = absurd cc
passes_tests h false false false x y z p q r = refl

abbrev flags_wrong : Bool → Bool
flags_wrong parts = not parts

abbrev length_wrong : ℕ → Bool
length_wrong n = not (n == 0)

part_framed : (order : Order) (kind : Kind) (more : Bool) (size : ℕ) → has_parts kind ≡ true → ((more ≡ true) → (HEAD_LENGTH + size) % 8 ≡ 0) → HEAD_LENGTH + size ≤ MESSAGE_LIMIT
    → framed (part_head order kind more size) ≡ Ok (part_head order kind more size)
part_framed Big kind true size parts even small =
    passes_tests (part_head Big kind true size) (nat_lt MESSAGE_LIMIT (HEAD_LENGTH + size)) (not (has_parts kind)) (length_wrong ((HEAD_LENGTH + size) % 8)) _ _ _
    (le-ltb MESSAGE_LIMIT (HEAD_LENGTH + size) small) (ap flags_wrong parts) (ap length_wrong (even refl))
part_framed Big kind false size parts even small = cond-false (nat_lt MESSAGE_LIMIT (HEAD_LENGTH + size)) _ _ (le-ltb MESSAGE_LIMIT (HEAD_LENGTH + size) small)
part_framed Little kind true size parts even small =
    passes_tests (part_head Little kind true size) (nat_lt MESSAGE_LIMIT (HEAD_LENGTH + size)) (not (has_parts kind)) (length_wrong ((HEAD_LENGTH + size) % 8)) _ _ _
    (le-ltb MESSAGE_LIMIT (HEAD_LENGTH + size) small) (ap flags_wrong parts) (ap length_wrong (even refl))
part_framed Little kind false size parts even small = cond-false (nat_lt MESSAGE_LIMIT (HEAD_LENGTH + size)) _ _ (le-ltb MESSAGE_LIMIT (HEAD_LENGTH + size) small)

-- ---- a part as a whole, where any messages are begun

part_taken : Laws → (os : List Begun) (order : Order) (kind : Kind) (more : Bool) (payload behind_it : List ℕ) (t : Turn) → has_parts kind ≡ true
    → ((more ≡ true) → (HEAD_LENGTH + length payload) % 8 ≡ 0) → HEAD_LENGTH + length payload ≤ MESSAGE_LIMIT
    → turn os (part_head order kind more (length payload)) (part order kind more payload) ≡ t
    → stream_on os (part order kind more payload ++ behind_it) ≡ turned t behind_it stream_on
part_taken laws os order kind more payload behind_it t parts even small is =
    let h = part_head order kind more (length payload) in
    let p = part order kind more payload in
    let long = part_twelve order kind more (length payload) in
    let whole : length p ≡ total h = omega (arith, length-append (header.written Big 0 h) payload) in
    let at : front p ≡ Whole h =
    front_of_written laws h payload refl long (part_small order kind more (length payload)) refl small (part_framed order kind more (length payload) parts even small) in
    whole_part os p behind_it h at
    ∙ ap (λ (q : List ℕ). turned (turn os h q) (drop (total h) p ++ behind_it) stream_on) (take_all (total h) p (omega arith))
    ∙ ap (λ (t : Turn). turned t (drop (total h) p ++ behind_it) stream_on) is
    ∙ ap (λ (rest : List ℕ). turned t (rest ++ behind_it) stream_on) (drop_of_length-le p (omega arith))

-- ---- its request id

id_read : (order : Order) (id : ℕ) (rest : List ℕ) → id < 2 ^ 32
    → request_id.read (reader_at order HEAD_LENGTH (digits_in order 4 id ++ rest)) ≡ lift up (done (id, reader_at order (HEAD_LENGTH + length (digits_in order 4 id)) rest))
id_read order id rest fits =
    ap (lift up) ((number_codec 4).again order HEAD_LENGTH id (digits_in order 4 id) rest ((number_codec 4).spells order HEAD_LENGTH id fits))

id_in_part : (order : Order) (id : ℕ) (p rest : List ℕ) → id < 2 ^ 32 → drop HEAD_LENGTH p ≡ digits_in order 4 id ++ rest → id_in order p ≡ Ok id
unfolding id_in
id_in_part order id p rest fits e =
    ap (λ (xs : List ℕ). told (request_id.read (reader_at order HEAD_LENGTH xs) >>= λ x. Ok x.0)) e
    ∙ ap (λ (r : Read Why ℕ). told (r >>= λ x. Ok x.0)) (id_read order id rest fits)

payload_behind : (order : Order) (kind : Kind) (more : Bool) (payload : List ℕ) → drop HEAD_LENGTH (part order kind more payload) ≡ payload
payload_behind order kind more payload =
    drop_at (header.written Big 0 (part_head order kind more (length payload))) payload HEAD_LENGTH (part_twelve order kind more (length payload))

rest_behind : (order : Order) (kind : Kind) (more : Bool) (id : ℕ) (rest : List ℕ) → drop FRAGMENT_HEAD (part order kind more (digits_in order 4 id ++ rest)) ≡ rest
rest_behind order kind more id rest =
    let digits = digits_in order 4 id in
    let head = header.written Big 0 (part_head order kind more (length (digits ++ rest))) in
    let long : length (head ++ digits) ≡ FRAGMENT_HEAD =
    omega (arith, length-append head digits, part_twelve order kind more (length (digits ++ rest)), length_digits order 4 id) in
    ap (drop FRAGMENT_HEAD) (sym (append_assoc head digits rest)) ∙ drop_at (head ++ digits) rest FRAGMENT_HEAD long

-- ---- what each part does

abbrev first_begun : Head → ℕ → List ℕ → Begun
first_begun h id p = record { id = id; head = h; payload = drop HEAD_LENGTH p; spent = length p }

first_turn : (order : Order) (kind : Kind) (id : ℕ) (first : List ℕ) → is_fragment kind ≡ false → id < 2 ^ 32
    → (let payload = digits_in order 4 id ++ first in
    let h = part_head order kind true (length payload) in
    let p = part order kind true payload in turn [] h p ≡ Joins (first_begun h id p ∷ []))
unfolding turn
first_turn order kind id first own fits =
    let payload = digits_in order 4 id ++ first in
    let h = part_head order kind true (length payload) in
    let p = part order kind true payload in
    cond-false (is_fragment kind) (fragment [] h p) (cond (more_in h) (begins [] h p) (gave [] (message_of h (drop HEAD_LENGTH p)))) own
    ∙ ap (λ (b : Bool). cond b (begins [] h p) (gave [] (message_of h (drop HEAD_LENGTH p)))) (part_more order kind true (length payload))
    ∙ ap (λ (x : Order). begins_by [] h p (id_in x p)) (part_order order kind true (length payload))
    ∙ ap (begins_by [] h p) (id_in_part order id p first fits (payload_behind order kind true payload))

abbrev place_by : Bool → Option ℕ
place_by b = cond (nat_lt (cond (not b) (1 + 0) zero) 1) (Some (cond (not b) (1 + 0) zero)) None

place_here : (o : Begun) (id : ℕ) → o.id ≡ id → place_of id (o ∷ []) ≡ Some 0
place_here o id e = ap place_by (eq-eqb o.id id e)

abbrev grown_or : Begun → Bool → List ℕ → Turn
grown_or o more rest = cond more (Joins (grown o rest ∷ [])) (gave [] (message_of o.head (o.payload ++ rest)))

fragment_turn : (o : Begun) (order : Order) (id : ℕ) (more : Bool) (rest : List ℕ) → id < 2 ^ 32 → o.id ≡ id → joined_size o rest ≤ MESSAGE_LIMIT
    → turn (o ∷ []) (part_head order kinds.Fragment more (length (digits_in order 4 id ++ rest))) (fragment_of order id more rest) ≡ grown_or o more rest
unfolding turn
fragment_turn o order id more rest fits e small =
    let payload = digits_in order 4 id ++ rest in
    let h = part_head order kinds.Fragment more (length payload) in
    let p = fragment_of order id more rest in
    ap (λ (x : Order). fragment_by (o ∷ []) (more_in h) p (id_in x p)) (part_order order kinds.Fragment more (length payload))
    ∙ ap (fragment_by (o ∷ []) (more_in h) p) (id_in_part order id p rest fits (payload_behind order kinds.Fragment more payload))
    ∙ ap (λ (b : Bool). fragment_at (o ∷ []) b (drop FRAGMENT_HEAD p) (place_of id (o ∷ []))) (part_more order kinds.Fragment more (length payload))
    ∙ ap (fragment_at (o ∷ []) more (drop FRAGMENT_HEAD p)) (place_here o id e)
    ∙ ap (λ (xs : List ℕ). grows_at (o ∷ []) 0 more xs (Some o)) (rest_behind order kinds.Fragment more id rest)
    ∙ cond-false (nat_lt MESSAGE_LIMIT (joined_size o rest)) (Fails (faults.TooLarge (joined_size o rest))) (grown_or o more rest)
    (le-ltb MESSAGE_LIMIT (joined_size o rest) small)

-- ---- all parts

-- what is begun of the message: with what is still to come it is the message's fields
record IsPartOf (m : Received) (id : ℕ) (o : Begun) (left : List ℕ) : Type 0 where
  pub id_is : o.id ≡ id
  pub form_is : form_of o.head ≡ m.1
  pub kind_is : o.head.kind ≡ kind_in m.0
  pub is : written_payload m.1 m.0 ≡ o.payload ++ left
  pub long : 4 ≤ length o.payload

same_fields : (h : Head) (m : Received) (payload : List ℕ) (size : ℕ) → form_of h ≡ m.1 → h.kind ≡ kind_in m.0
    → told (fields_in h payload) ≡ told (fields_in (whole_head m.1 (kind_in m.0) size) payload)
same_fields h m payload size o k =
    ap (λ (x : Form). told (fields_if (has_kind x.minor h.kind) x h.kind payload)) o
    ∙ ap (λ (x : Kind). told (fields_if (has_kind m.1.minor x) m.1 x payload)) k
    ∙ ap (λ (x : Form). told (fields_if (has_kind m.1.minor (kind_in m.0)) x (kind_in m.0) payload)) (sym (form_means m.1 (kind_in m.0) size))

whole_message : Laws → MessagesAreReadBack → (m : Received) (id : ℕ) (o : Begun) (last : List ℕ) → IsWritable m → IsPartOf m id o last
    → message_of o.head (o.payload ++ last) ≡ Ok m
unfolding message_of
whole_message laws back m id o last w p =
    let payload = written_payload m.1 m.0 in
    let h = whole_head m.1 (kind_in m.0) (length payload) in
    let long : length (header.written Big 0 h) ≡ HEAD_LENGTH = twelve m.1 (kind_in m.0) (length payload) in
    let whole : length (written m) ≡ HEAD_LENGTH + length payload = omega (arith, length-append (header.written Big 0 h) payload) in
    let read : head_in (written m) ≡ Ok h = laws.headers h payload w.writable.possible (sign_small m.1.order) (omega (arith, w.writable.sized)) in
    let there : message_of h (drop HEAD_LENGTH (written m)) ≡ Ok m = message_of_written laws back m h w (sign_fits m.1 (kind_in m.0) (length payload)) whole read in
    same_fields o.head m (o.payload ++ last) (length payload) p.form_is p.kind_is
    ∙ ap (λ (xs : List ℕ). told (fields_in h xs)) (sym p.is ∙ sym (drop_at (header.written Big 0 h) payload HEAD_LENGTH long)) ∙ there

small_message : (m : Received) → IsWritable m → HEAD_LENGTH + length (written_payload m.1 m.0) ≤ MESSAGE_LIMIT
small_message m w =
    let payload = written_payload m.1 m.0 in
    let h = whole_head m.1 (kind_in m.0) (length payload) in
    let long : length (header.written Big 0 h) ≡ HEAD_LENGTH = twelve m.1 (kind_in m.0) (length payload) in
    omega (arith, length-append (header.written Big 0 h) payload, w.writable.sized)

-- a further rest of the message makes it no larger than it is, nor is its part larger
joined_small : (m : Received) (id : ℕ) (o : Begun) (rest left : List ℕ) → IsWritable m → IsPartOf m id o (rest ++ left) → joined_size o rest ≤ MESSAGE_LIMIT
joined_small m id o rest left w p =
    let small : HEAD_LENGTH + length (written_payload m.1 m.0) ≤ MESSAGE_LIMIT = small_message m w in
    omega (arith, ap length p.is, length-append o.payload (rest ++ left), length-append rest left)

part_fits : (m : Received) (id : ℕ) (o : Begun) (rest left : List ℕ) → IsWritable m → IsPartOf m id o (rest ++ left)
    → HEAD_LENGTH + length (digits_in m.1.order 4 id ++ rest) ≤ MESSAGE_LIMIT
part_fits m id o rest left w p =
    let small : joined_size o rest ≤ MESSAGE_LIMIT = joined_small m id o rest left w p in
    omega (arith, length-append (digits_in m.1.order 4 id) rest, length_digits m.1.order 4 id, p.long)

even_part : (order : Order) (id : ℕ) (rest : List ℕ) → length rest % 8 ≡ 0 → (HEAD_LENGTH + length (digits_in order 4 id ++ rest)) % 8 ≡ 0
even_part order id rest e =
    let long : HEAD_LENGTH + length (digits_in order 4 id ++ rest) ≡ FRAGMENT_HEAD + length rest = omega (arith, length-append (digits_in order 4 id) rest, length_digits order 4 id) in
    omega arith

with_rest : (m : Received) (id : ℕ) (o : Begun) (rest left : List ℕ) → IsPartOf m id o (rest ++ left) → IsPartOf m id (grown o rest) left
with_rest m id o rest left p = record {
  id_is = p.id_is;
  form_is = p.form_is;
  kind_is = p.kind_is;
  is = p.is ∙ sym (append_assoc o.payload rest left);
  long = omega (arith, p.long, length-append o.payload rest);
}

left_as : (m : Received) (id : ℕ) (o : Begun) (xs ys : List ℕ) → xs ≡ ys → IsPartOf m id o xs → IsPartOf m id o ys
left_as m id o xs ys e p = subst (λ (l : List ℕ). IsPartOf m id o l) e p

parts_joined : Laws → MessagesAreReadBack → (m : Received) (id : ℕ) (last : List ℕ) → IsWritable m → id < 2 ^ 32
    → (sent : List Sent) (o : Begun) → AreSent sent → IsPartOf m id o (flat_map rest_in sent ++ last)
    → stream_on (o ∷ []) (flat_map (sent_bytes m.1.order id) sent ++ fragment_of m.1.order id false last)
    ≡ record { messages = flat_map other_in sent ++ m ∷ []; end = Rest 0 }
parts_joined laws back m id last w fits [] o each p =
    let alone : IsPartOf m id o (last ++ []) = left_as m id o last (last ++ []) (sym (append-nil last)) p in
    ap (stream_on (o ∷ [])) (sym (append-nil (fragment_of m.1.order id false last)))
    ∙ part_taken laws (o ∷ []) m.1.order kinds.Fragment false (digits_in m.1.order 4 id ++ last) [] (Gives m []) refl (λ e. absurd cc) (part_fits m id o last [] w alone)
    (fragment_turn o m.1.order id false last fits p.id_is (joined_small m id o last [] w alone) ∙ ap (gave []) (whole_message laws back m id o last w p))
    ∙ ap (behind (m ∷ [])) (no_part [] [] refl)
parts_joined laws back m id last w fits (Further rest ∷ sent) o each p =
    let left = flat_map rest_in sent ++ last in
    let on = flat_map (sent_bytes m.1.order id) sent ++ fragment_of m.1.order id false last in
    let q : IsPartOf m id o (rest ++ left) = left_as m id o ((rest ++ flat_map rest_in sent) ++ last) (rest ++ left) (append_assoc rest (flat_map rest_in sent) last) p in
    ap (stream_on (o ∷ [])) (append_assoc (fragment_of m.1.order id true rest) (flat_map (sent_bytes m.1.order id) sent) (fragment_of m.1.order id false last))
    ∙ part_taken laws (o ∷ []) m.1.order kinds.Fragment true (digits_in m.1.order 4 id ++ rest) on (Joins (grown o rest ∷ [])) refl
    (λ e. even_part m.1.order id rest each.0) (part_fits m id o rest left w q) (fragment_turn o m.1.order id true rest fits p.id_is (joined_small m id o rest left w q))
    ∙ parts_joined laws back m id last w fits sent (grown o rest) each.1 (with_rest m id o rest left q)
parts_joined laws back m id last w fits (Other x ∷ sent) o each p =
    ap (stream_on (o ∷ [])) (append_assoc (written x) (flat_map (sent_bytes m.1.order id) sent) (fragment_of m.1.order id false last))
    ∙ written_first laws back (o ∷ []) x (flat_map (sent_bytes m.1.order id) sent ++ fragment_of m.1.order id false last) each.0
    ∙ ap (behind (x ∷ [])) (parts_joined laws back m id last w fits sent o each.1 p)

pub cut_joined : Laws → MessagesAreReadBack → (m : Received) (id : ℕ) (first : List ℕ) (sent : List Sent) (last : List ℕ) → IsCut m id first sent last
    → stream (part m.1.order (kind_in m.0) true (digits_in m.1.order 4 id ++ first) ++ (flat_map (sent_bytes m.1.order id) sent ++ fragment_of m.1.order id false last))
    ≡ record { messages = flat_map other_in sent ++ m ∷ []; end = Rest 0 }
cut_joined laws back m id first sent last c =
    let payload = digits_in m.1.order 4 id ++ first in
    let left = flat_map rest_in sent ++ last in
    let on = flat_map (sent_bytes m.1.order id) sent ++ fragment_of m.1.order id false last in
    let o = first_begun (part_head m.1.order (kind_in m.0) true (length payload)) id (part m.1.order (kind_in m.0) true payload) in
    let same : o.payload ≡ payload = payload_behind m.1.order (kind_in m.0) true payload in
    let small : HEAD_LENGTH + length payload ≤ MESSAGE_LIMIT = omega (arith, small_message m c.writable, ap length c.is, length-append payload left) in
    part_taken laws [] m.1.order (kind_in m.0) true payload on (Joins (o ∷ [])) c.parts (λ e. even_part m.1.order id first c.first_fits) small
    (first_turn m.1.order (kind_in m.0) id first c.writable.whole c.id_fits)
    ∙ parts_joined laws back m id last c.writable c.id_fits sent o c.each (record {
      id_is = refl;
      form_is = ap (λ (order : Order). giop 2 order) (part_order m.1.order (kind_in m.0) true (length payload)) ∙ ap (λ (minor : ℕ). giop minor m.1.order) (sym c.of_1_2);
      kind_is = refl;
      is = c.is ∙ ap (λ (xs : List ℕ). xs ++ left) (sym same);
      long = omega (arith, ap length same, length-append (digits_in m.1.order 4 id) first, length_digits m.1.order 4 id);
    })
