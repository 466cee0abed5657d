-- The stream of bytes to which others are added.
use Rattle.std.proofs.Common.{◌≡◌, ℕ, zero, suc, ◌<◌, ◌≤◌, List, [], ◌∷◌, ◌++◌, length, take, drop, Result, Ok, Err, refl, sym, ap, ◌∙◌, subst, arith, ⊎_elim, length-append, length-drop}
use Rattle.std.specs.Prelude.{nat_lt}
use Rattle.std.proofs.lemmas.List.{take-append-le, drop-append-le}
use Rattle.std.proofs.lemmas.Bool.{cases_lt, cond-true, cond-false, lt-ltb, le-ltb}
use Rattle.giop_messages.specs.declared.heads.TheConstants.{HEAD_LENGTH}
use Rattle.giop_messages.specs.declared.heads.Head.{Head}
use Rattle.giop_stream.specs.declared.faults.StreamFault.{StreamFault}
use Rattle.giop_stream.specs.declared.fronts.Front.{Front}
use Rattle.giop_stream.specs.declared.fronts.Front.TheVariants.{Partly, Wrong, Whole}
use Rattle.giop_stream.specs.Fronts.{total, head_at, fronted, front}
use Rattle.giop_stream.specs.Parts.{Begun, Turn, Joins, Gives, Fails, turn}
use Rattle.giop_stream.specs.Streams.{Streamed, behind, stops, waits, turned, at_front, stream_in, stream_on}

-- ---- the front

abbrev Stays : Front → Front → Type 0
Stays Partly later = Unit {0}
Stays (Wrong fault) later = later ≡ Wrong fault
Stays (Whole h) later = later ≡ Whole h

pub front_short : (bytes : List ℕ) → length bytes < HEAD_LENGTH → front bytes ≡ Partly
front_short bytes h = cond-true (nat_lt (length bytes) HEAD_LENGTH) Partly (fronted bytes (head_at (take HEAD_LENGTH bytes))) (lt-ltb (length bytes) HEAD_LENGTH h)

pub front_long : (bytes : List ℕ) → HEAD_LENGTH ≤ length bytes → front bytes ≡ fronted bytes (head_at (take HEAD_LENGTH bytes))
front_long bytes h = cond-false (nat_lt (length bytes) HEAD_LENGTH) Partly (fronted bytes (head_at (take HEAD_LENGTH bytes))) (le-ltb (length bytes) HEAD_LENGTH h)

partly_stays : (bytes more : List ℕ) (x : Front) → x ≡ Partly → Stays x (front (bytes ++ more))
partly_stays bytes more x e = let P : Front → Type 0 = λ x. Stays x (front (bytes ++ more)) in subst P (sym e) tt

pub whole_stays : (bytes : List ℕ) (h : Head) → total h ≤ length bytes → fronted bytes (Ok h) ≡ Whole h
whole_stays bytes h le = cond-false (nat_lt (length bytes) (total h)) Partly (Whole h) (le-ltb (length bytes) (total h) le)

pub partly_short : (bytes : List ℕ) (h : Head) → length bytes < total h → fronted bytes (Ok h) ≡ Partly
partly_short bytes h lt = cond-true (nat_lt (length bytes) (total h)) Partly (Whole h) (lt-ltb (length bytes) (total h) lt)

fronted_stays : (bytes more : List ℕ) (r : Result Head StreamFault) → Stays (fronted bytes r) (fronted (bytes ++ more) r)
fronted_stays bytes more (Err fault) = refl
fronted_stays bytes more (Ok h) =
    ⊎_elim
    (λ (lt : length bytes < total h).
    let P : Front → Type 0 = λ x. Stays x (fronted (bytes ++ more) (Ok h)) in subst P (sym (partly_short bytes h lt)) tt)
    (λ (le : total h ≤ length bytes).
    let P : Front → Type 0 = λ x. Stays x (fronted (bytes ++ more) (Ok h)) in
    subst P (sym (whole_stays bytes h le)) (whole_stays (bytes ++ more) h (omega (arith, length-append bytes more))))
    (cases_lt (length bytes) (total h))

-- what more bytes may change of the front is that it is only partly there
front_stays : (bytes more : List ℕ) → Stays (front bytes) (front (bytes ++ more))
front_stays bytes more =
    ⊎_elim
    (λ (lt : length bytes < HEAD_LENGTH). partly_stays bytes more (front bytes) (front_short bytes lt))
    (λ (le : HEAD_LENGTH ≤ length bytes).
    let P : Front → Front → Type 0 = λ x y. Stays x y in
    let same : head_at (take HEAD_LENGTH (bytes ++ more)) ≡ head_at (take HEAD_LENGTH bytes) = ap head_at (take-append-le HEAD_LENGTH bytes more le) in
    let later : front (bytes ++ more) ≡ fronted (bytes ++ more) (head_at (take HEAD_LENGTH bytes)) =
    front_long (bytes ++ more) (omega (arith, length-append bytes more)) ∙ ap (fronted (bytes ++ more)) same in
    let Q : Front → Type 0 = λ x. Stays x (front (bytes ++ more)) in
    let R : Front → Type 0 = λ y. Stays (fronted bytes (head_at (take HEAD_LENGTH bytes))) y in
    subst Q (sym (front_long bytes le)) (subst R (sym later) (fronted_stays bytes more (head_at (take HEAD_LENGTH bytes)))))
    (cases_lt (length bytes) HEAD_LENGTH)

abbrev Fits : Front → List ℕ → Type 0
Fits Partly bytes = Unit {0}
Fits (Wrong fault) bytes = Unit {0}
Fits (Whole h) bytes = total h ≤ length bytes

fronted_fits : (bytes : List ℕ) (r : Result Head StreamFault) → Fits (fronted bytes r) bytes
fronted_fits bytes (Err fault) = tt
fronted_fits bytes (Ok h) =
    let P : Front → Type 0 = λ x. Fits x bytes in
    ⊎_elim
    (λ (lt : length bytes < total h). subst P (sym (partly_short bytes h lt)) tt)
    (λ (le : total h ≤ length bytes). subst P (sym (whole_stays bytes h le)) le)
    (cases_lt (length bytes) (total h))

fits : (bytes : List ℕ) → Fits (front bytes) bytes
fits bytes =
    let P : Front → Type 0 = λ x. Fits x bytes in
    ⊎_elim
    (λ (lt : length bytes < HEAD_LENGTH). subst P (sym (front_short bytes lt)) tt)
    (λ (le : HEAD_LENGTH ≤ length bytes). subst P (sym (front_long bytes le)) (fronted_fits bytes (head_at (take HEAD_LENGTH bytes))))
    (cases_lt (length bytes) HEAD_LENGTH)

pub front_fits : (bytes : List ℕ) (h : Head) → front bytes ≡ Whole h → total h ≤ length bytes
front_fits bytes h e = let P : Front → Type 0 = λ x. Fits x bytes in subst P e (fits bytes)

pub whole_front : (bytes more : List ℕ) (h : Head) → front bytes ≡ Whole h → front (bytes ++ more) ≡ Whole h
whole_front bytes more h e = let P : Front → Type 0 = λ x. Stays x (front (bytes ++ more)) in subst P e (front_stays bytes more)

pub wrong_front : (bytes more : List ℕ) (fault : StreamFault) → front bytes ≡ Wrong fault → front (bytes ++ more) ≡ Wrong fault
wrong_front bytes more fault e = let P : Front → Type 0 = λ x. Stays x (front (bytes ++ more)) in subst P e (front_stays bytes more)

-- ---- how often the definition turns

abbrev Onward : Type 0
Onward = List Begun → List ℕ → Streamed

turned_alike : (t : Turn) (rest : List ℕ) (f g : Onward) → ((os : List Begun) → f os rest ≡ g os rest) → turned t rest f ≡ turned t rest g
turned_alike (Joins os) rest f g e = e os
turned_alike (Gives m os) rest f g e = ap (behind (m ∷ [])) (e os)
turned_alike (Fails fault) rest f g e = refl

alike : (x : Front) (os : List Begun) (bytes : List ℕ) (f g : Onward)
    → ((h : Head) (after : List Begun) → f after (drop (total h) bytes) ≡ g after (drop (total h) bytes))
    → at_front os bytes x f ≡ at_front os bytes x g
alike Partly os bytes f g e = refl
alike (Wrong fault) os bytes f g e = refl
alike (Whole h) os bytes f g e = turned_alike (turn os h (take (total h) bytes)) (drop (total h) bytes) f g (e h)

enough : (n m : ℕ) (os : List Begun) (bytes : List ℕ) → length bytes ≤ n → length bytes ≤ m → stream_in n os bytes ≡ stream_in m os bytes
unfolding stream_in
enough zero zero os bytes p q = refl
enough zero (suc m) os [] p q = refl
enough zero (suc m) os (b ∷ bytes) p q = absurd (omega arith)
enough (suc n) zero os [] p q = refl
enough (suc n) zero os (b ∷ bytes) p q = absurd (omega arith)
enough (suc n) (suc m) os bytes p q =
    alike (front bytes) os bytes (stream_in n) (stream_in m)
    (λ h after. enough n m after (drop (total h) bytes) (omega (arith, length-drop (total h) bytes)) (omega (arith, length-drop (total h) bytes)))

-- the stream, by what stands at the front
pub stream_parts : (os : List Begun) (bytes : List ℕ) → stream_on os bytes ≡ at_front os bytes (front bytes) stream_on
unfolding stream_in
stream_parts os [] = refl
stream_parts os (b ∷ bytes) =
    alike (front (b ∷ bytes)) os (b ∷ bytes) (stream_in (length bytes)) stream_on
    (λ h after. enough (length bytes) (length (drop (total h) (b ∷ bytes))) after (drop (total h) (b ∷ bytes))
    (omega (arith, length-drop (total h) (b ∷ bytes))) (omega arith))

-- ---- whatever follows

pub whole_part : (os : List Begun) (bytes more : List ℕ) (h : Head) → front bytes ≡ Whole h
    → stream_on os (bytes ++ more) ≡ turned (turn os h (take (total h) bytes)) (drop (total h) bytes ++ more) stream_on
whole_part os bytes more h e =
    let le : total h ≤ length bytes = front_fits bytes h e in
    stream_parts os (bytes ++ more)
    ∙ ap (λ (x : Front). at_front os (bytes ++ more) x stream_on) (whole_front bytes more h e)
    ∙ ap (λ (part : List ℕ). turned (turn os h part) (drop (total h) (bytes ++ more)) stream_on) (take-append-le (total h) bytes more le)
    ∙ ap (λ (rest : List ℕ). turned (turn os h (take (total h) bytes)) rest stream_on) (drop-append-le (total h) bytes more le)

pub wrong_part : (os : List Begun) (bytes more : List ℕ) (fault : StreamFault) → front bytes ≡ Wrong fault
    → stream_on os (bytes ++ more) ≡ stops fault
wrong_part os bytes more fault e =
    stream_parts os (bytes ++ more) ∙ ap (λ (x : Front). at_front os (bytes ++ more) x stream_on) (wrong_front bytes more fault e)

pub no_part : (os : List Begun) (bytes : List ℕ) → front bytes ≡ Partly → stream_on os bytes ≡ waits os bytes
no_part os bytes e = stream_parts os bytes ∙ ap (λ (x : Front). at_front os bytes x stream_on) e
