-- Messages that are written back to back stream as those messages.
use Rattle.std.proofs.Common.{◌≡◌, ℕ, ◌+◌, ◌<◌, ◌≤◌, ◌++◌, ◌∷◌, [], Bool, true, false, cond, List, length, take, drop, Result, Ok, Err, refl, sym, ap, ◌∙◌, arith, length-append}
use Rattle.std.specs.Prelude.{◌&&◌, ◌==◌, ◌%◌, not, nat_lt, flat_map}
use Rattle.std.specs.List.{AllByRecursion}
use Rattle.std.proofs.Math.ListN.{drop_of_length-le}
use Rattle.std.proofs.lemmas.Bool.{cond-false, le-ltb}
use Rattle.std.proofs.lemmas.List.{length-drop, append-nil, take_all, take_at}
use Rattle.cdr_codec.specs.declared.orders.Order.{Order}
use Rattle.cdr_codec.specs.declared.orders.Order.TheVariants.{Big, Little}
use Rattle.cdr_codec.specs.Reading.{Fault}
use Rattle.giop_messages.specs.declared.faults.Why.{Why}
use Rattle.giop_messages.specs.declared.forms.Form.{Form}
use Rattle.giop_messages.specs.declared.heads.Head.{Head}
use Rattle.giop_messages.specs.declared.heads.Kind.{Kind}
use Rattle.giop_messages.specs.declared.heads.TheConstants.{HEAD_LENGTH, MESSAGE_LIMIT}
use Rattle.giop_messages.specs.Heads.{flags_fit, has_kind, head_in, header, more_in}
use Rattle.giop_messages.specs.Messages.{giop, kind_in}
use Rattle.giop_messages.specs.Writing.{whole_head, written_payload}
use Rattle.giop_messages.specs.Laws.{MessagesAreReadBack}
use Rattle.giop_stream.specs.declared.fronts.Front.TheVariants.{Whole}
use Rattle.giop_stream.specs.declared.faults.StreamFault.{StreamFault}
use Rattle.giop_stream.specs.Faults.{told}
use Rattle.giop_stream.specs.Fronts.{framed, framed_by, front, fronted, head_at, total}
use Rattle.giop_stream.specs.Parts.{Begun, Gives, Received, Turn, fragment, gave, is_fragment, message_of, turn, begins}
use Rattle.giop_stream.specs.Streams.{Rest, behind, stream, stream_on, turned}
use Rattle.giop_stream.specs.Written.{IsWritable, written}
use Rattle.giop_stream.proofs.StreamLaws.{front_long, no_part, whole_part, whole_stays}
use Rattle.giop_stream.proofs.SpelledLaws.{Laws, sign_fits, sign_small, twelve}

-- ---- a header that announces no fragments, and what stands behind it

-- nothing is announced, whatever the minor version
quiet : (b : Bool) → (b && false) ≡ false
quiet true = refl
quiet false = refl

unless_even : (h : Head) (b : Bool) (fault : StreamFault) → (b && false) ≡ false → cond {A = Result Head StreamFault} ((b && false) && not (total h % 8 == 0)) (Err fault) (Ok h) ≡ Ok h
unless_even h b fault e = ap (λ (d : Bool). cond {A = Result Head StreamFault} (d && not (total h % 8 == 0)) (Err fault) (Ok h)) e

framed_in : (minor : ℕ) (order : Order) (kind : Kind) (size : ℕ) → HEAD_LENGTH + size ≤ MESSAGE_LIMIT
    → framed (whole_head (giop minor order) kind size) ≡ Ok (whole_head (giop minor order) kind size)
framed_in minor Big kind size h =
    cond-false (nat_lt MESSAGE_LIMIT (HEAD_LENGTH + size)) _ _ (le-ltb MESSAGE_LIMIT (HEAD_LENGTH + size) h)
    ∙ unless_even (whole_head (giop minor Big) kind size) (minor == 2) _ (quiet (minor == 2))
framed_in minor Little kind size h =
    cond-false (nat_lt MESSAGE_LIMIT (HEAD_LENGTH + size)) _ _ (le-ltb MESSAGE_LIMIT (HEAD_LENGTH + size) h)
    ∙ unless_even (whole_head (giop minor Little) kind size) (minor == 2) _ (quiet (minor == 2))

pub framed_is : (form : Form) (kind : Kind) (size : ℕ) → HEAD_LENGTH + size ≤ MESSAGE_LIMIT → framed (whole_head form kind size) ≡ Ok (whole_head form kind size)
framed_is form kind size h = framed_in form.minor form.order kind size h

head_at_is : (bytes : List ℕ) (h : Head) → head_in bytes ≡ Ok h → framed h ≡ Ok h → head_at bytes ≡ Ok h
unfolding head_at
head_at_is bytes h read fits = ap (λ (r : Result Head (Fault Why)). framed_by (told r)) read ∙ fits

-- this header is judged at the front of the bytes that begin with it
pub front_of_written : Laws → (h : Head) (payload : List ℕ) → has_kind h.minor h.kind ≡ true → length (header.written Big 0 h) ≡ HEAD_LENGTH → h.flags < 256 → h.size ≡ length payload
    → total h ≤ MESSAGE_LIMIT → framed h ≡ Ok h → front (header.written Big 0 h ++ payload) ≡ Whole h
front_of_written laws h payload there long flags size small fits =
    let head = header.written Big 0 h in
    let whole : length (head ++ payload) ≡ total h = omega (arith, length-append head payload) in
    let alone : head_in head ≡ Ok h = ap head_in (sym (append-nil head)) ∙ laws.headers h [] there flags (omega arith) in
    let at : head_at (take HEAD_LENGTH (head ++ payload)) ≡ Ok h = ap head_at (take_at head payload HEAD_LENGTH long) ∙ head_at_is head h alone fits in
    front_long (head ++ payload) (omega arith) ∙ ap (fronted (head ++ payload)) at ∙ whole_stays (head ++ payload) h (omega arith)

-- ---- one message

-- no more is to follow
last_in : (minor : ℕ) (order : Order) (kind : Kind) (size : ℕ) → more_in (whole_head (giop minor order) kind size) ≡ false
last_in minor Big kind size = quiet (minor == 2)
last_in minor Little kind size = quiet (minor == 2)

whole_turn : (os : List Begun) (form : Form) (kind : Kind) (size : ℕ) (part : List ℕ) (m : Received) → is_fragment kind ≡ false
    → message_of (whole_head form kind size) (drop HEAD_LENGTH part) ≡ Ok m → turn os (whole_head form kind size) part ≡ Gives m os
unfolding turn
whole_turn os form kind size part m own read =
    let h = whole_head form kind size in
    let whole = gave os (message_of h (drop HEAD_LENGTH part)) in
    cond-false (is_fragment kind) (fragment os h part) (cond (more_in h) (begins os h part) whole) own
    ∙ cond-false (more_in h) (begins os h part) whole (last_in form.minor form.order kind size) ∙ ap (gave os) read

pub message_of_written : Laws → MessagesAreReadBack → (m : Received) (h : Head) → IsWritable m → flags_fit h ≡ true → length (written m) ≡ HEAD_LENGTH + h.size
    → head_in (written m) ≡ Ok h → message_of h (drop HEAD_LENGTH (written m)) ≡ Ok m
unfolding message_of
message_of_written laws back m h w fits long read =
    let behind : h.size ≡ length (drop HEAD_LENGTH (written m)) = omega (arith, long, length-drop HEAD_LENGTH (written m)) in
    ap (λ (r : Result Received (Fault Why)). told r)
    (sym (laws.fields (written m) (drop HEAD_LENGTH (written m)) h read fits refl behind (omega (arith, long))) ∙ back m.0 m.1 w.numbered w.writable)

-- one written message before others, where nothing or anything is begun
pub written_first : Laws → MessagesAreReadBack → (os : List Begun) (m : Received) (more : List ℕ) → IsWritable m
    → stream_on os (written m ++ more) ≡ behind (m ∷ []) (stream_on os more)
written_first laws back os m more w =
    let payload = written_payload m.1 m.0 in
    let h = whole_head m.1 (kind_in m.0) (length payload) in
    let long : length (header.written Big 0 h) ≡ HEAD_LENGTH = twelve m.1 (kind_in m.0) (length payload) in
    let whole : length (written m) ≡ total h = omega (arith, length-append (header.written Big 0 h) payload) in
    let small : total h ≤ MESSAGE_LIMIT = omega (arith, w.writable.sized) in
    let at : front (written m) ≡ Whole h =
    front_of_written laws h payload w.writable.possible long (sign_small m.1.order) refl small (framed_is m.1 (kind_in m.0) (length payload) small) in
    let read : head_in (written m) ≡ Ok h = laws.headers h payload w.writable.possible (sign_small m.1.order) (omega arith) in
    let all : take (total h) (written m) ≡ written m = take_all (total h) (written m) (omega arith) in
    let none : drop (total h) (written m) ≡ [] = drop_of_length-le (written m) (omega arith) in
    let is : turn os h (written m) ≡ Gives m os =
    whole_turn os m.1 (kind_in m.0) (length payload) (written m) m w.whole (message_of_written laws back m h w (sign_fits m.1 (kind_in m.0) (length payload)) whole read) in
    whole_part os (written m) more h at
    ∙ ap (λ (part : List ℕ). turned (turn os h part) (drop (total h) (written m) ++ more) stream_on) all
    ∙ ap (λ (t : Turn). turned t (drop (total h) (written m) ++ more) stream_on) is
    ∙ ap (λ (rest : List ℕ). behind (m ∷ []) (stream_on os (rest ++ more))) none

pub written_streamed : Laws → MessagesAreReadBack → (ms : List Received) → AllByRecursion IsWritable ms
    → stream (flat_map written ms) ≡ record { messages = ms; end = Rest 0 }
written_streamed laws back [] all = no_part [] [] refl
written_streamed laws back (m ∷ ms) all =
    written_first laws back [] m (flat_map written ms) all.0 ∙ ap (behind (m ∷ [])) (written_streamed laws back ms all.1)
