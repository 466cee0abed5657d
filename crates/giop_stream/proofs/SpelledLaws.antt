-- What a stream gives is spelled by at most 1 MiB: a message of its own by its fields behind a header, and a joined
-- one by the joined fields behind a header of the joined size.
use Rattle.std.proofs.Common.{◌≡◌, ℕ, zero, suc, ◌+◌, ◌<◌, ◌≤◌, ◌++◌, ◌∷◌, [], Bool, true, false, cond, List, length, take, drop, Option, Some, None, Result, Ok, Err, refl, sym, subst, ap, ◌∙◌, arith, lit<, length-append}
use Rattle.std.specs.Prelude.{◌&&◌, ◌==◌, ◌%◌, is_some, nat_lt, not, remove, slice_get, slice_set}
use Rattle.std.specs.List.{AllByRecursion}
use Rattle.std.proofs.lemmas.Bool.{ltb-false}
use Rattle.std.proofs.lemmas.List.{drop_at, length-drop, length-take}
use Rattle.cdr_codec.specs.declared.orders.Order.{Order}
use Rattle.cdr_codec.specs.declared.orders.Order.TheVariants.{Big, Little}
use Rattle.cdr_codec.specs.Reading.{Fault, digits_in, reader_at, ◌>>=◌}
use Rattle.cdr_codec.specs.Orders.{order_of, order_sign}
use Rattle.giop_messages.specs.declared.faults.Why.{Why}
use Rattle.giop_messages.specs.declared.faults.Why.TheVariants as causes
use Rattle.giop_messages.specs.declared.forms.Form.{Form}
use Rattle.giop_messages.specs.declared.heads.Head.{Head}
use Rattle.giop_messages.specs.declared.heads.Kind.{Kind}
use Rattle.giop_messages.specs.declared.heads.TheConstants.{HEAD_LENGTH, MESSAGE_LIMIT}
use Rattle.giop_messages.specs.Heads.{flags_fit, has_kind, head_in, header, more_in}
use Rattle.giop_messages.specs.Messages.{giop, fields_in, form_of, fields_in_form, message_in, no_kind}
use Rattle.giop_messages.specs.Writing.{whole_head}
use Rattle.giop_messages.specs.Laws.{HeadersAreReadBack, MessagesAreFieldsBehindHeaders, MessagesAreReadExactly}
use Rattle.byteorder.specs.Numbers.{length-bytes_high_first, length-bytes_low_first}
use Rattle.giop_stream.specs.declared.begun.TheConstants.{FRAGMENT_HEAD}
use Rattle.giop_stream.specs.declared.faults.StreamFault.{StreamFault}
use Rattle.giop_stream.specs.declared.faults.StreamFault.TheVariants as faults
use Rattle.giop_stream.specs.declared.fronts.Front.{Front}
use Rattle.giop_stream.specs.declared.fronts.Front.TheVariants.{Partly, Wrong, Whole}
use Rattle.giop_stream.specs.Faults.{told}
use Rattle.giop_stream.specs.Fronts.{framed, framed_by, front, fronted, head_at, total}
use Rattle.giop_stream.specs.Parts.{Begun, Fails, Gives, Joins, Received, Turn, begins, begins_by, begun_limit, completes, fragment, fragment_at, fragment_by, gave, grown, grows_at, id_in, is_fragment, joined_size, message_of, out_of_turn, place_of, turn}
use Rattle.giop_stream.specs.Streams.{Streamed, at_front, behind, stream, stream_in, turned}
use Rattle.giop_stream.specs.Frames.{Frames, Passes, goes_on, resume}
use Rattle.giop_stream.specs.Spelled.{IsSpelled}

-- what giop_messages says of headers and of messages
pub record Laws : Type 0 where
  pub headers : HeadersAreReadBack
  pub fields : MessagesAreFieldsBehindHeaders
  pub exactly : MessagesAreReadExactly

-- ---- the fields behind a header of their size

pub sign_small : (order : Order) → order_sign order < 256
sign_small Big = lit< tt
sign_small Little = lit< tt

sign_fits_in : (minor : ℕ) (order : Order) (kind : Kind) (size : ℕ) → flags_fit (whole_head (giop minor order) kind size) ≡ true
sign_fits_in minor Big kind size = refl
sign_fits_in minor Little kind size = refl

pub sign_fits : (form : Form) (kind : Kind) (size : ℕ) → flags_fit (whole_head form kind size) ≡ true
sign_fits form kind size = sign_fits_in form.minor form.order kind size

pub sign_means : (order : Order) → order_of (order_sign order) ≡ order
sign_means Big = refl
sign_means Little = refl

pub length_digits : (order : Order) (size n : ℕ) → length (digits_in order size n) ≡ size
length_digits Big size n = length-bytes_high_first size n
length_digits Little size n = length-bytes_low_first 0 size n

twelve_in : (minor : ℕ) (order : Order) (kind : Kind) (size : ℕ) → length (header.written Big 0 (whole_head (giop minor order) kind size)) ≡ HEAD_LENGTH
twelve_in minor Big kind size = refl
twelve_in minor Little kind size = refl

pub twelve : (form : Form) (kind : Kind) (size : ℕ) → length (header.written Big 0 (whole_head form kind size)) ≡ HEAD_LENGTH
twelve form kind size = twelve_in form.minor form.order kind size

-- fields are read of a type that there is
possible_if : (b : Bool) (read : Result Received (Fault Why)) (m : Received) → cond b read (Err no_kind) ≡ Ok m → b ≡ true
possible_if true read m e = refl
possible_if false read m e = absurd cc

-- the header of these fields, written with their size, says the same form
pub form_means : (form : Form) (kind : Kind) (size : ℕ) → form_of (whole_head form kind size) ≡ form
form_means form kind size = ap (giop form.minor) (sign_means form.order)

abbrev pub fields_if : Bool → Form → Kind → List ℕ → Result Received (Fault Why)
fields_if b form kind payload = cond b (fields_in_form form kind payload) (Err no_kind)

pub fields_spelled : Laws → (h : Head) (payload : List ℕ) (m : Received) → HEAD_LENGTH + length payload ≤ MESSAGE_LIMIT → fields_in h payload ≡ Ok m → IsSpelled m
fields_spelled laws h payload m small e =
    let form = form_of h in
    let there : has_kind h.minor h.kind ≡ true = possible_if (has_kind h.minor h.kind) _ m e in
    let k = whole_head form h.kind (length payload) in
    let front = header.written Big 0 k in
    let long : length front ≡ HEAD_LENGTH = twelve form h.kind (length payload) in
    let whole : length (front ++ payload) ≡ HEAD_LENGTH + length payload = omega (arith, length-append front payload) in
    let read : head_in (front ++ payload) ≡ Ok k = laws.headers k payload there (sign_small form.order) (omega arith) in
    let same : fields_in k (drop HEAD_LENGTH (front ++ payload)) ≡ fields_in h payload =
    ap (fields_in k) (drop_at front payload HEAD_LENGTH long) ∙ ap (λ (f : Form). fields_if (has_kind h.minor h.kind) f h.kind payload) (form_means form h.kind (length payload)) in
    let read_all : message_in (front ++ payload) ≡ Ok m =
    laws.fields (front ++ payload) (drop HEAD_LENGTH (front ++ payload)) k read (sign_fits form h.kind (length payload)) refl
    (ap length (sym (drop_at front payload HEAD_LENGTH long))) (omega (arith, whole)) ∙ same ∙ e in
    record { bytes = front ++ payload; small = omega arith; spelled = (laws.exactly (front ++ payload) m.0 m.1).0 read_all }

-- ---- a turn gives only spelled messages

abbrev IsSpelledTurn : Turn → Type 0
IsSpelledTurn (Joins os) = Unit {0}
IsSpelledTurn (Gives m os) = IsSpelled m
IsSpelledTurn (Fails fault) = Unit {0}

gave_spelled : Laws → (os : List Begun) (h : Head) (payload : List ℕ) → HEAD_LENGTH + length payload ≤ MESSAGE_LIMIT → IsSpelledTurn (gave os (message_of h payload))
unfolding message_of
gave_spelled laws os h payload small = go (fields_in h payload) refl
  where
    go : (r : Result Received (Fault Why)) → fields_in h payload ≡ r → IsSpelledTurn (gave os (told r))
    go (Ok m) e = fields_spelled laws h payload m small e
    go (Err wrong) e = tt

begins_spelled : (os : List Begun) (h : Head) (part : List ℕ) (r : Result ℕ StreamFault) → IsSpelledTurn (begins_by os h part r)
begins_spelled os h part (Err fault) = tt
begins_spelled os h part (Ok id) = go (is_some (place_of id os)) (nat_lt (length os) begun_limit)
  where
    go : (b d : Bool) → IsSpelledTurn (cond b out_of_turn (cond d (Joins (os ++ record { id = id; head = h; payload = drop HEAD_LENGTH part; spent = length part } ∷ [])) out_of_turn))
    go true d = tt
    go false true = tt
    go false false = tt

grows_spelled : Laws → (os : List Begun) (at : ℕ) (more : Bool) (rest : List ℕ) (o : Option Begun) → IsSpelledTurn (grows_at os at more rest o)
grows_spelled laws os at more rest None = tt
grows_spelled laws os at more rest (Some o) = go (nat_lt MESSAGE_LIMIT (joined_size o rest)) refl more
  where
    go : (b : Bool) → nat_lt MESSAGE_LIMIT (joined_size o rest) ≡ b → (d : Bool) →
        IsSpelledTurn (cond b (Fails (faults.TooLarge (joined_size o rest))) (cond d (Joins (slice_set os at (grown o rest))) (completes os at o rest)))
    go true e d = tt
    go false e true = tt
    go false e false =
        let within : joined_size o rest ≤ MESSAGE_LIMIT = ltb-false MESSAGE_LIMIT (joined_size o rest) e in
        gave_spelled laws (remove os at) o.head (o.payload ++ rest) (omega (arith, length-append o.payload rest))

fragment_spelled : Laws → (os : List Begun) (more : Bool) (rest : List ℕ) (o : Option ℕ) → IsSpelledTurn (fragment_at os more rest o)
fragment_spelled laws os more rest None = tt
fragment_spelled laws os more rest (Some at) = grows_spelled laws os at more rest (slice_get os at)

fragment_by_spelled : Laws → (os : List Begun) (more : Bool) (part : List ℕ) (r : Result ℕ StreamFault) → IsSpelledTurn (fragment_by os more part r)
fragment_by_spelled laws os more part (Err fault) = tt
fragment_by_spelled laws os more part (Ok id) = fragment_spelled laws os more (drop FRAGMENT_HEAD part) (place_of id os)

turn_spelled : Laws → (os : List Begun) (h : Head) (part : List ℕ) → HEAD_LENGTH ≤ length part → length part ≤ MESSAGE_LIMIT → IsSpelledTurn (turn os h part)
unfolding turn
turn_spelled laws os h part long few = go (is_fragment h.kind) (more_in h)
  where
    go : (b d : Bool) → IsSpelledTurn (cond b (fragment os h part) (cond d (begins os h part) (gave os (message_of h (drop HEAD_LENGTH part)))))
    go true d = fragment_by_spelled laws os (more_in h) part (id_in (order_of h.flags) part)
    go false true = begins_spelled os h part (id_in (order_of h.flags) part)
    go false false = gave_spelled laws os h (drop HEAD_LENGTH part) (omega (arith, length-drop HEAD_LENGTH part))

-- ---- a whole message or part has at most 1 MiB, and all its bytes are there

abbrev IsSmall : Result Head StreamFault → Type 0
IsSmall (Ok h) = total h ≤ MESSAGE_LIMIT
IsSmall (Err fault) = Unit {0}

framed_small : (h : Head) → IsSmall (framed h)
framed_small h = go (nat_lt MESSAGE_LIMIT (total h)) refl (not (flags_fit h)) (more_in h && not (total h % 8 == 0))
  where
    go : (b : Bool) → nat_lt MESSAGE_LIMIT (total h) ≡ b → (d k : Bool) →
        IsSmall (cond b (Err (faults.TooLarge (total h))) (cond d (Err (faults.Malformed causes.Flags 6))
        (cond k (Err (faults.Malformed causes.Length 8)) (Ok h))))
    go true e d k = tt
    go false e true k = tt
    go false e false true = tt
    go false e false false = ltb-false MESSAGE_LIMIT (total h) e

framed_by_small : (r : Result Head StreamFault) → IsSmall (framed_by r)
framed_by_small (Ok h) = framed_small h
framed_by_small (Err fault) = tt

head_small : (bytes : List ℕ) → IsSmall (head_at bytes)
unfolding head_at
head_small bytes = framed_by_small (told (head_in bytes))

abbrev IsSmallFront : Front → List ℕ → Type 0
IsSmallFront Partly bytes = Unit {0}
IsSmallFront (Wrong fault) bytes = Unit {0}
IsSmallFront (Whole h) bytes = (total h ≤ MESSAGE_LIMIT) × (total h ≤ length bytes)

fronted_small : (bytes : List ℕ) (r : Result Head StreamFault) → IsSmall r → IsSmallFront (fronted bytes r) bytes
fronted_small bytes (Err fault) small = tt
fronted_small bytes (Ok h) small = go (nat_lt (length bytes) (total h)) refl
  where
    go : (b : Bool) → nat_lt (length bytes) (total h) ≡ b → IsSmallFront (cond b Partly (Whole h)) bytes
    go true e = tt
    go false e = (small, ltb-false (length bytes) (total h) e)

front_small : (bytes : List ℕ) → IsSmallFront (front bytes) bytes
front_small bytes = go (nat_lt (length bytes) HEAD_LENGTH)
  where
    go : (b : Bool) → IsSmallFront (cond b Partly (fronted bytes (head_at (take HEAD_LENGTH bytes)))) bytes
    go true = tt
    go false = fronted_small bytes (head_at (take HEAD_LENGTH bytes)) (head_small (take HEAD_LENGTH bytes))

-- ---- the stream

abbrev AreSpelled : List Received → Type 0
AreSpelled ms = AllByRecursion IsSpelled ms

turned_spelled : (t : Turn) (rest : List ℕ) (onward : List Begun → List ℕ → Streamed) → IsSpelledTurn t → ((os : List Begun) → AreSpelled (onward os rest).messages) →
    AreSpelled (turned t rest onward).messages
turned_spelled (Joins os) rest onward here later = later os
turned_spelled (Gives m os) rest onward here later = (here, later os)
turned_spelled (Fails fault) rest onward here later = tt

at_front_spelled : Laws → (os : List Begun) (bytes : List ℕ) (x : Front) (onward : List Begun → List ℕ → Streamed) → IsSmallFront x bytes →
    ((after : List Begun) (rest : List ℕ) → AreSpelled (onward after rest).messages) → AreSpelled (at_front os bytes x onward).messages
at_front_spelled laws os bytes Partly onward small later = tt
at_front_spelled laws os bytes (Wrong fault) onward small later = tt
at_front_spelled laws os bytes (Whole h) onward small later =
    let long : length (take (total h) bytes) ≡ total h = omega (arith, length-take (total h) bytes) in
    turned_spelled (turn os h (take (total h) bytes)) (drop (total h) bytes) onward
    (turn_spelled laws os h (take (total h) bytes) (omega arith) (omega arith))
    (λ after. later after (drop (total h) bytes))

stream_spelled : Laws → (n : ℕ) (os : List Begun) (bytes : List ℕ) → AreSpelled (stream_in n os bytes).messages
unfolding stream_in
stream_spelled laws zero os bytes = tt
stream_spelled laws (suc n) os bytes =
    at_front_spelled laws os bytes (front bytes) (stream_in n) (front_small bytes) (λ after rest. stream_spelled laws n after rest)

pub streams_spelled : Laws → (bytes : List ℕ) → AreSpelled (stream bytes).messages
streams_spelled laws bytes = stream_spelled laws (length bytes) [] bytes

resumed_spelled : Laws → (f : Frames) (s : Option StreamFault) → AreSpelled (goes_on f [] s).messages
resumed_spelled laws f (Some fault) = tt
resumed_spelled laws f None = stream_spelled laws (length (f.rest ++ [])) f.begun (f.rest ++ [])

pub given_spelled : Laws → (f g : Frames) (m : Received) → Passes f g (m ∷ []) → IsSpelled m
given_spelled laws f g m p =
    let all : AreSpelled (behind (m ∷ []) (resume g [])).messages =
    subst (λ (s : Streamed). AreSpelled s.messages) (p.on []) (resumed_spelled laws f f.stopped) in
    all.0
