-- The count against the stream: it keeps the begun messages' ids and bytes.
use Rattle.std.proofs.Common.{◌≡◌, ℕ, zero, suc, ◌+◌, Bool, true, false, cond, List, [], ◌∷◌, ◌++◌, length, take, drop, Option, Some, None, Result, Ok, Err, refl, sym, ap, ◌∙◌, subst, arith}
use Rattle.std.specs.Prelude.{nat_lt, ◌==◌, is_some, slice_get, slice_set, remove, fold, option_map, not, if◌then◌else◌}
use Rattle.std.specs.List.{position_or_len}
use Rattle.std.proofs.lemmas.List.{map-append, map-set, length-map, append-nil}
use Rattle.std.proofs.lemmas.Option.{slice_get-map}
use Rattle.cdr_codec.specs.Orders.{order_of}
use Rattle.giop_messages.specs.declared.heads.Head.{Head}
use Rattle.giop_messages.specs.declared.heads.TheConstants.{HEAD_LENGTH, MESSAGE_LIMIT}
use Rattle.giop_messages.specs.Heads.{more_in}
use Rattle.giop_stream.specs.declared.begun.TheConstants.{FRAGMENT_HEAD}
use Rattle.giop_stream.specs.declared.faults.StreamFault.{StreamFault}
use Rattle.giop_stream.specs.declared.faults.StreamFault.TheVariants as faults
use Rattle.giop_stream.specs.declared.tallies.Brief.{Brief}
use Rattle.giop_stream.specs.declared.fronts.Front.{Front}
use Rattle.giop_stream.specs.declared.fronts.Front.TheVariants.{Partly, Wrong, Whole}
use Rattle.giop_stream.specs.Fronts.{total, front}
use Rattle.giop_stream.specs.Parts.{Received, Begun, begun_limit, capped, place_of, id_in, message_of, is_fragment, joined_size, grown, completes, Turn, Joins, Gives, Fails, gave, out_of_turn, opens, begins_by, grows_at, fragment_at, fragment_by, turn}
use Rattle.giop_stream.specs.Streams.{Streamed, Rest, Stops, at_front, turned, spent_in, stream_on, stream}
use Rattle.giop_stream.specs.Frames.{Frames, goes_on, Stands}
use Rattle.giop_stream.specs.Tallies.{brief, briefs, brief_place, spent_by, counted, tally_at, tally_placed, tally_fragment, tally_first, tally, Left}
use Rattle.giop_stream.proofs.StreamLaws.{front_short, stream_parts}

abbrev Agrees : Turn → List Brief → Type 0
Agrees (Joins os) bs = briefs os ≡ bs
Agrees (Gives m os) bs = briefs os ≡ bs
Agrees (Fails fault) bs = Unit {0}

gave_agrees : (os : List Begun) (bs : List Brief) (r : Result Received StreamFault) → briefs os ≡ bs → Agrees (gave os r) bs
gave_agrees os bs (Ok m) e = e
gave_agrees os bs (Err fault) e = tt

first_agrees : (os : List Begun) (h : Head) (part : List ℕ) (id : ℕ) (again room : Bool)
    → Agrees (if again then out_of_turn else (if room then Joins (os ++ record { id = id; head = h; payload = drop HEAD_LENGTH part; spent = length part } ∷ []) else out_of_turn))
    (if room then briefs os ++ record { id = id; spent = length part } ∷ [] else briefs os)
first_agrees os h part id true room = tt
first_agrees os h part id false true = map-append brief os (record { id = id; head = h; payload = drop HEAD_LENGTH part; spent = length part } ∷ [])
first_agrees os h part id false false = tt

begins_agrees : (os : List Begun) (h : Head) (part : List ℕ) (r : Result ℕ StreamFault) → Agrees (begins_by os h part r) (tally_first (briefs os) part r)
begins_agrees os h part (Ok id) =
    let P : ℕ → Type 0 = λ n. Agrees (opens os h part id) (if nat_lt n begun_limit then briefs os ++ record { id = id; spent = length part } ∷ [] else briefs os) in
    subst P (sym (length-map os brief)) (first_agrees os h part id (is_some (place_of id os)) (nat_lt (length os) begun_limit))
begins_agrees os h part (Err fault) = tt

map-remove : (os : List Begun) (at : ℕ) → briefs (remove os at) ≡ remove (briefs os) at
map-remove [] zero = refl
map-remove [] (suc at) = refl
map-remove (o ∷ os) zero = refl
map-remove (o ∷ os) (suc at) = ap (λ (bs : List Brief). brief o ∷ bs) (map-remove os at)

grows_agrees : (os : List Begun) (at : ℕ) (o : Begun) (part : List ℕ) (large more : Bool)
    → Agrees (if large then Fails (faults.TooLarge (joined_size o (drop FRAGMENT_HEAD part)))
    else (if more then Joins (slice_set os at (grown o (drop FRAGMENT_HEAD part))) else completes os at o (drop FRAGMENT_HEAD part)))
    (if more then slice_set (briefs os) at (counted (brief o) part) else remove (briefs os) at)
grows_agrees os at o part true more = tt
grows_agrees os at o part false true = map-set brief os at (grown o (drop FRAGMENT_HEAD part))
grows_agrees os at o part false false = gave_agrees (remove os at) (remove (briefs os) at) (message_of o.head (o.payload ++ drop FRAGMENT_HEAD part)) (map-remove os at)

at_agrees : (os : List Begun) (at : ℕ) (more : Bool) (part : List ℕ) (x : Option Begun)
    → Agrees (grows_at os at more (drop FRAGMENT_HEAD part) x) (tally_at (briefs os) at more part (option_map brief x))
at_agrees os at more part None = tt
at_agrees os at more part (Some o) = grows_agrees os at o part (nat_lt MESSAGE_LIMIT (joined_size o (drop FRAGMENT_HEAD part))) more

placed_agrees : (os : List Begun) (more : Bool) (part : List ℕ) (place : Option ℕ)
    → Agrees (fragment_at os more (drop FRAGMENT_HEAD part) place) (tally_placed (briefs os) more part place)
placed_agrees os more part None = tt
placed_agrees os more part (Some at) =
    let P : Option Brief → Type 0 = λ b. Agrees (grows_at os at more (drop FRAGMENT_HEAD part) (slice_get os at)) (tally_at (briefs os) at more part b) in
    subst P (sym (slice_get-map brief os at)) (at_agrees os at more part (slice_get os at))

places : (id : ℕ) (os : List Begun) → position_or_len (λ (b : Brief). b.id == id) (briefs os) ≡ position_or_len (λ (o : Begun). o.id == id) os
places id [] = refl
places id (o ∷ os) = ap (λ (n : ℕ). cond (not (o.id == id)) (1 + n) zero) (places id os)

place_alike : (id : ℕ) (os : List Begun) → brief_place id (briefs os) ≡ place_of id os
place_alike id os = simp (places id os, length-map os brief)

fragment_agrees : (os : List Begun) (more : Bool) (part : List ℕ) (r : Result ℕ StreamFault)
    → Agrees (fragment_by os more part r) (tally_fragment (briefs os) more part r)
fragment_agrees os more part (Ok id) =
    let P : Option ℕ → Type 0 = λ place. Agrees (fragment_at os more (drop FRAGMENT_HEAD part) (place_of id os)) (tally_placed (briefs os) more part place) in
    subst P (sym (place_alike id os)) (placed_agrees os more part (place_of id os))
fragment_agrees os more part (Err fault) = tt

by_kind : (os : List Begun) (h : Head) (part : List ℕ) (fragment_sign more_sign : Bool)
    → Agrees (if fragment_sign then fragment_by os (more_in h) part (id_in (order_of h.flags) part)
    else (if more_sign then begins_by os h part (id_in (order_of h.flags) part) else gave os (message_of h (drop HEAD_LENGTH part))))
    (if fragment_sign then tally_fragment (briefs os) (more_in h) part (id_in (order_of h.flags) part)
    else (if more_sign then tally_first (briefs os) part (id_in (order_of h.flags) part) else briefs os))
by_kind os h part true more_sign = fragment_agrees os (more_in h) part (id_in (order_of h.flags) part)
by_kind os h part false true = begins_agrees os h part (id_in (order_of h.flags) part)
by_kind os h part false false = gave_agrees os (briefs os) (message_of h (drop HEAD_LENGTH part)) refl

tally_agrees : (os : List Begun) (h : Head) (part : List ℕ) → Agrees (turn os h part) (tally (briefs os) h part)
unfolding turn tally
tally_agrees os h part = by_kind os h part (is_fragment h.kind) (more_in h)

-- ---- over the bytes that wait

rest_alike : (n m : ℕ) → Rest n ≡ Rest m → n ≡ m
rest_alike n m e = cc

no_rest : (fault : StreamFault) (n : ℕ) → Stops fault ≡ Rest n → ⊥
no_rest fault n e = cc

left_turned : (t : Turn) (bs : List Brief) (rest : List ℕ) (n : ℕ) → Agrees t bs → (turned t rest stream_on).end ≡ Rest n → Left bs rest n
left_turned (Joins os) bs rest n a e = record { begun = os; is = a; ends = e }
left_turned (Gives m os) bs rest n a e = record { begun = os; is = a; ends = e }
left_turned (Fails fault) bs rest n a e = absurd (no_rest fault n e)

-- the end, by what stands at the front
end_at : (os : List Begun) (bytes : List ℕ) (n : ℕ) (x : Front) → front bytes ≡ x → (stream_on os bytes).end ≡ Rest n
    → (at_front os bytes x stream_on).end ≡ Rest n
end_at os bytes n x w e =
    ap (λ (x : Front). (at_front os bytes x stream_on).end) (sym w) ∙ ap (λ (s : Streamed). s.end) (sym (stream_parts os bytes)) ∙ e

pub left_on : (bs : List Brief) (bytes : List ℕ) (n : ℕ) (h : Head) → front bytes ≡ Whole h → Left bs bytes n
    → Left (tally bs h (take (total h) bytes)) (drop (total h) bytes) n
left_on bs bytes n h w l =
    let P : List Brief → Type 0 = λ bs. Left (tally bs h (take (total h) bytes)) (drop (total h) bytes) n in
    subst P l.is
    (left_turned (turn l.begun h (take (total h) bytes)) (tally (briefs l.begun) h (take (total h) bytes)) (drop (total h) bytes) n
    (tally_agrees l.begun h (take (total h) bytes)) (end_at l.begun bytes n (Whole h) w l.ends))

spent_alike : (os : List Begun) (n : ℕ) → fold (λ (m : ℕ) (b : Brief). m + b.spent) n (briefs os) ≡ fold (λ (m : ℕ) (o : Begun). m + o.spent) n os
spent_alike [] n = refl
spent_alike (o ∷ os) n = spent_alike os (n + o.spent)

left_waits : (os : List Begun) (bs : List Brief) (bytes : List ℕ) (n : ℕ) → briefs os ≡ bs
    → Rest (capped (spent_in os + length bytes)) ≡ Rest n → capped (spent_by bs + length bytes) ≡ n
left_waits os bs bytes n is e =
    ap (λ (bs : List Brief). capped (spent_by bs + length bytes)) (sym is)
    ∙ ap (λ (m : ℕ). capped (m + length bytes)) (spent_alike os 0)
    ∙ rest_alike (capped (spent_in os + length bytes)) n e

-- no whole message or part is at the front
pub left_at_end : (bs : List Brief) (bytes : List ℕ) (n : ℕ) → front bytes ≡ Partly → Left bs bytes n → capped (spent_by bs + length bytes) ≡ n
left_at_end bs bytes n w l = left_waits l.begun bs bytes n l.is (end_at l.begun bytes n Partly w l.ends)

pub left_at_fault : (bs : List Brief) (bytes : List ℕ) (n : ℕ) (fault : StreamFault) → front bytes ≡ Wrong fault → Left bs bytes n → ⊥
left_at_fault bs bytes n fault w l = no_rest fault n (end_at l.begun bytes n (Wrong fault) w l.ends)

pub left_after : (bs after : List Brief) (bytes part rest : List ℕ) (n : ℕ) (h : Head) → Whole h ≡ front bytes → after ≡ tally bs h part
    → part ≡ take (total h) bytes → rest ≡ drop (total h) bytes → Left bs bytes n → Left after rest n
left_after bs after bytes part rest n h w a p r l =
    let A : List Brief → Type 0 = λ xs. Left xs rest n in
    let P : List ℕ → Type 0 = λ xs. Left (tally bs h xs) rest n in
    let R : List ℕ → Type 0 = λ xs. Left (tally bs h (take (total h) bytes)) xs n in
    subst A (sym a) (subst P (sym p) (subst R (sym r) (left_on bs bytes n h (sym w) l)))

left_by : (f : Frames) (n : ℕ) (s : Option StreamFault) → (goes_on f [] s).end ≡ Rest n → Left (briefs f.begun) f.rest n
left_by f n (Some fault) e = absurd (no_rest fault n e)
left_by f n None e =
    record { begun = f.begun; is = refl; ends = ap (λ (xs : List ℕ). (stream_on f.begun xs).end) (sym (append-nil f.rest)) ∙ e }

-- what a framer still has to read is what its stream has left
pub left_of : (f : Frames) (fed : List ℕ) (given ms : List Received) (n : ℕ) → Stands f fed given
    → stream fed ≡ record { messages = ms; end = Rest n } → Left (briefs f.begun) f.rest n
left_of f fed given ms n s e =
    left_by f n f.stopped
    (ap (λ (t : Streamed). t.end) (sym (s.on [])) ∙ ap (λ (xs : List ℕ). (stream xs).end) (append-nil fed) ∙ ap (λ (t : Streamed). t.end) e)

pub left_same : (bs cs : List Brief) (xs ys : List ℕ) (n : ℕ) → cs ≡ bs → ys ≡ xs → Left bs xs n → Left cs ys n
left_same bs cs xs ys n e r l =
    let B : List Brief → Type 0 = λ bs. Left bs ys n in
    let R : List ℕ → Type 0 = λ xs. Left bs xs n in
    subst B (sym e) (subst R (sym r) l)

-- where no byte waits and no message is begun, nothing is left over
pub nothing_left : (begun : List Begun) (bytes : List ℕ) (n : ℕ) → length begun ≡ 0 → length bytes ≡ 0 → Left (briefs begun) bytes n → 0 ≡ n
nothing_left [] [] n b e left = left_at_end [] [] n (front_short [] (omega arith)) left
nothing_left (o ∷ os) bytes n b e left = absurd (omega (arith, b))
nothing_left [] (x ∷ xs) n b e left = absurd (omega (arith, e))
