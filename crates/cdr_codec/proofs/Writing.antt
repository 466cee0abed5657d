-- One value written behind another.
use Rattle.std.proofs.Common.{◌≡◌, ℕ, ◌+◌, ◌≤◌, List, [], ◌∷◌, ◌++◌, length, take, sym, ap, subst, ◌∙◌, append_assoc, append-nil, length-append, arith}
use Rattle.std.proofs.Math.Seq.{take-append_seam, take-length}
use Rattle.std.proofs.lemmas.List.{length-take, take-take}
use Rattle.cdr_codec.specs.declared.orders.Order.{Order}
use Rattle.cdr_codec.specs.Formats.{written_number, written_pair, written_each, written_sequence}
use Rattle.cdr_codec.specs.Calls.{Writer, appended, appended_each, Keeps}

abbrev with_text : Writer → List ℕ → Writer
with_text w text = record w { text = text }

-- a pair is its first value, and then the second
pub pair_written : {X Y : Type 0} (f : Order → ℕ → X → List ℕ) (g : X → Order → ℕ → Y → List ℕ) (x : X × Y) (w : Writer)
    → appended (written_pair f g) x w ≡ appended (g x.0) x.1 (appended f x.0 w)
pair_written f g x w =
    let first = f w.order (w.place + length w.text) x.0 in
    let place-is : w.place + length w.text + length first ≡ w.place + length (w.text ++ first) = omega (arith, length-append w.text first) in
    ap (with_text w)
    (ap (λ (n : ℕ). w.text ++ (first ++ g x.0 w.order n x.1)) place-is
    ∙ sym (append_assoc w.text first (g x.0 w.order (w.place + length (w.text ++ first)) x.1)))

-- nothing leaves the text
pub nothing_written : (w : Writer) → record w { text = w.text ++ [] } ≡ w
nothing_written w = ap (with_text w) (append-nil w.text)

-- the elements of a list, written one by one
pub each_written : {X : Type 0} (f : Order → ℕ → X → List ℕ) (xs : List X) (w : Writer) → appended (written_each f) xs w ≡ appended_each f xs w
each_written f [] w = nothing_written w
each_written f (x ∷ xs) w = pair_written f (λ y. written_each f) (x, xs) w ∙ each_written f xs (appended f x w)

-- a sequence is its count, and then the elements
pub sequence_written : {X : Type 0} (f : Order → ℕ → X → List ℕ) (xs : List X) (w : Writer)
    → appended (written_sequence f) xs w ≡ appended_each f xs (appended (written_number 4) (length xs) w)
sequence_written f xs w =
    pair_written (written_number 4) (λ n. written_each f) (length xs, xs) w ∙ each_written f xs (appended (written_number 4) (length xs) w)

-- ---- what stood there stays

pub keeps_itself : (w : Writer) → Keeps w w
keeps_itself w = ap (with_text w) (take-length w.text)

pub keeps_behind : {X : Type 0} (f : Order → ℕ → X → List ℕ) (x : X) (w : Writer) → Keeps w (appended f x w)
keeps_behind f x w = ap (with_text w) (take-append_seam w.text (f w.order (w.place + length w.text) x))

pub keeps_through : (a b c : Writer) → Keeps a b → Keeps b c → Keeps a c
keeps_through a b c first second =
    let n = length a.text in
    let kept : length (take n b.text) ≡ n = ap (λ (w : Writer). length w.text) first in
    let fits : n ≤ length b.text = omega (arith, length-take n b.text, kept) in
    ap (with_text c) (sym (take-take n (length b.text) c.text fits)) ∙ ap (λ (w : Writer). with_text w (take n w.text)) second ∙ first

-- behind a value that was written, what stood before it stays
pub keeps_after : {X : Type 0} (f : Order → ℕ → X → List ℕ) (x : X) (a b c : Writer) → b ≡ appended f x a → Keeps b c → Keeps a c
keeps_after f x a b c written rest =
    keeps_through a b c (subst (λ (w : Writer). Keeps a w) (sym written) (keeps_behind f x a)) rest
