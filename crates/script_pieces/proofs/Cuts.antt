-- Bytes cut at an LF, and the lines of what is joined.
use Rattle.std.proofs.Common.{◌≡◌, ℕ, zero, suc, ◌+◌, ◌<◌, Bool, true, false, List, [], ◌∷◌, ◌++◌, length, get_or, take, drop, refl, sym, ap, ◌∙◌, subst, arith}
use Rattle.std.specs.Prelude.{◌==◌}
use Rattle.std.proofs.lemmas.List.{get_or-take, length-take}
use Rattle.std.proofs.lemmas.Bool.{eqb-true}
use Rattle.memchr.specs.Find.{NoneBefore, Nowhere, Passes, is_byte}
use Rattle.script_pieces.specs.Runs.{lines_of, text_of}
use Rattle.script_pieces.specs.Feeds.{IsInLine}

in_line_by : (xs : List ℕ) → ((k : ℕ) → k < length xs → (get_or xs k 0 == 10) ≡ false) → IsInLine xs
in_line_by [] h = tt
in_line_by (x ∷ xs) h = (h 0 (omega arith), in_line_by xs (λ k l. h (suc k) (omega arith)))

-- bytes that are cut at a place
cut_at : (xs : List ℕ) (i : ℕ) → i < length xs → xs ≡ take i xs ++ get_or xs i 0 ∷ drop (suc i) xs
cut_at [] i h = absurd (omega arith)
cut_at (x ∷ xs) zero h = refl
cut_at (x ∷ xs) (suc i) h = ap (λ (ys : List ℕ). x ∷ ys) (cut_at xs i (omega arith))

pub lines_open : (text more line : List ℕ) (lines : List (List ℕ)) → IsInLine text → lines_of more ≡ line ∷ lines
    → lines_of (text ++ more) ≡ (text ++ line) ∷ lines
lines_open [] more line lines h e = e
lines_open (b ∷ text) more line lines h e = rw (h.0, lines_open text more line lines h.1 e)

pub lines_end : (text more : List ℕ) → IsInLine text → lines_of (text ++ 10 ∷ more) ≡ (text ++ 10 ∷ []) ∷ lines_of more
lines_end text more h = lines_open text (10 ∷ more) (10 ∷ []) (lines_of more) h refl

pub lines_last : (b : ℕ) (text : List ℕ) → IsInLine (b ∷ text) → lines_of (b ∷ text) ≡ (b ∷ text) ∷ []
lines_last b [] h = rw h.0
lines_last b (c ∷ text) h = rw (h.0, lines_last c text h.1)

pub text_front : (text line : List ℕ) → IsInLine text → text_of (text ++ line) ≡ text ++ text_of line
text_front [] line h = refl
text_front (b ∷ text) line h = rw (h.0, text_front text line h.1)

pub text_whole : (text : List ℕ) → IsInLine text → text_of text ≡ text
text_whole [] h = refl
text_whole (b ∷ text) h = rw (h.0, text_whole text h.1)

-- a front of a front
pub take_capped : (n : ℕ) (xs ys : List ℕ) → take n (take n xs ++ ys) ≡ take n (xs ++ ys)
take_capped zero xs ys = refl
take_capped (suc n) [] ys = refl
take_capped (suc n) (x ∷ xs) ys = ap (λ (zs : List ℕ). x ∷ zs) (take_capped n xs ys)

not_so : (b : Bool) → (b ≡ true → ⊥) → b ≡ false
not_so true h = absurd (h refl)
not_so false h = refl

-- a place before the first LF
not_here : (xs : List ℕ) (i k : ℕ) → Nowhere (Passes (is_byte 10) xs) 0 i → k < i → (get_or xs k 0 == 10) ≡ false
not_here xs i k before l = not_so (get_or xs k 0 == 10) (before k (omega arith) l)

within : (xs : List ℕ) (i k : ℕ) → k < length (take i xs) → k < i
within xs i k h = omega (arith, simp length-take at h)

pub cut_none : (xs : List ℕ) → Nowhere (Passes (is_byte 10) xs) 0 (length xs) → IsInLine xs
cut_none xs h = in_line_by xs (λ k l. not_here xs (length xs) k h l)

pub cut_some : (xs front rest : List ℕ) (i : ℕ) → NoneBefore (Passes (is_byte 10) xs) 0 (length xs) i → Passes (is_byte 10) xs i
    → front ≡ take i xs → rest ≡ drop (i + 1) xs → IsInLine front × (xs ≡ front ++ 10 ∷ rest)
cut_some xs front rest i none is f r =
    let in_front_line : IsInLine (take i xs) =
    in_line_by (take i xs) (λ k l. ap (λ (b : ℕ). b == 10) (get_or-take i xs k 0 (within xs i k l)) ∙ not_here xs i k none.before (within xs i k l)) in
    let next : suc i ≡ i + 1 = omega arith in
    let here : get_or xs i 0 ≡ 10 = eqb-true (get_or xs i 0) 10 is in (
      subst IsInLine (sym f) in_front_line,
      cut_at xs i none.high
          ∙ ap (λ (b : ℕ). take i xs ++ b ∷ drop (suc i) xs) here
          ∙ ap (λ (n : ℕ). take i xs ++ 10 ∷ drop n xs) next
          ∙ ap (λ (ys : List ℕ). ys ++ 10 ∷ drop (i + 1) xs) (sym f)
          ∙ ap (λ (ys : List ℕ). front ++ 10 ∷ ys) (sym r),
    )
