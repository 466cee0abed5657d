-- Laws of what is read and written, for all that reads and writes in pieces.
use Rattle.std.proofs.Common.{◌≡◌, ℕ, ◌+◌, List, ◌++◌, take, drop, Option, Some, None, option_map, refl, sym, ap, subst, ◌∙◌, append_assoc}
use Rattle.std.proofs.Math.Seq.{take-add}
use Rattle.std.proofs.lemmas.List.{take-append-drop}

-- what was left before a read is what came and what is left
pub left_splits : (n : ℕ) (into left rest : List ℕ) → take n into ≡ take n left → rest ≡ drop n left → left ≡ take n into ++ rest
left_splits n into left rest e r = sym (ap (λ (xs : List ℕ). xs ++ rest) e ∙ ap (λ (ys : List ℕ). take n left ++ ys) r ∙ take-append-drop n left)

gained : (text xs : List ℕ) (done n : ℕ) → (xs ++ take done text) ++ take n (drop done text) ≡ xs ++ take (done + n) text
gained text xs done n = append_assoc xs (take done text) (take n (drop done text)) ∙ ap (λ (ys : List ℕ). xs ++ ys) (sym (take-add done n text))

twice : (start : Option (List ℕ)) (text : List ℕ) (done n : ℕ)
    → option_map (λ held. held ++ take n (drop done text)) (option_map (λ held. held ++ take done text) start)
    ≡ option_map (λ held. held ++ take (done + n) text) start
twice None text done n = refl
twice (Some xs) text done n = ap (λ (ys : List ℕ). Some ys) (gained text xs done n)

-- a sink that holds a front of a text holds more of it after a write of what stands behind that front
pub gains_more : (start old new : Option (List ℕ)) (text piece : List ℕ) (done n : ℕ)
    → piece ≡ drop done text → new ≡ option_map (λ held. held ++ take n piece) old
    → old ≡ option_map (λ held. held ++ take done text) start
    → new ≡ option_map (λ held. held ++ take (done + n) text) start
gains_more start old new text piece done n e h i =
    subst (λ (p : List ℕ). new ≡ option_map (λ held. held ++ take n p) old) e h
    ∙ ap (λ (o : Option (List ℕ)). option_map (λ held. held ++ take n (drop done text)) o) i
    ∙ twice start text done n
