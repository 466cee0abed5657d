-- What a test, a map or a chain was taken over, where its result is known; and the first word as each part.
use Rattle.std.proofs.Common.{◌≡◌, ℕ, Bool, true, false, List, [], ◌∷◌, Option, Some, None, Result, Ok, Err, cond, sym, ap, ◌∙◌, inl, inr, refl}
use Rattle.std.specs.Prelude.{option_map, option_and_then}
use Rattle.std.specs.Str.{bytes_eq}
use Rattle.std.proofs.lemmas.Slice.Eq.{bytes_eq-Decides}
use Rattle.fault_script.specs.Arguments.{IsFound}
use Rattle.fault_script.specs.Parts.{Part, Value, a_text, word_value}
use Rattle.fault_script.specs.Grammar.{first_word}
use Rattle.fault_script.specs.declared.lines.LineFault.{LineFault}

pub same_text : (a b : List ℕ) → bytes_eq a b ≡ true → a ≡ b
same_text a b e = (bytes_eq-Decides a b).0 e

-- the value under a map, and under a chain
pub map_value : {X Y : Type 0} (f : X → Y) (from : Option X) (y : Y) → option_map f from ≡ Some y → (x : X) × (from ≡ Some x) × (f x ≡ y)
map_value f None y e = cc
map_value f (Some x) y e = let same : f x ≡ y = cc in (x, refl, same)

pub chain_value : {X Y : Type 0} (f : X → Option Y) (from : Option X) (y : Y) → option_and_then f from ≡ Some y → (x : X) × (from ≡ Some x) × (f x ≡ Some y)
chain_value f None y e = cc
chain_value f (Some x) y e = (x, refl, e)

pub if_value : {X : Type 0} (b : Bool) (value wanted : X) → cond b (Some value) None ≡ Some wanted → (b ≡ true) × (value ≡ wanted)
if_value true value wanted e = let same : value ≡ wanted = cc in (refl, same)
if_value false value wanted e = cc

-- the first word as a part, from the first word as a text
pub first_word_as : (part : Part) (words rest : List (List ℕ)) (first : List ℕ) → first_word a_text words ≡ Some (first, rest)
    → first_word part words ≡ option_map (λ value. (value, rest)) (word_value part first)
first_word_as part [] rest first e = cc
first_word_as part (word ∷ behind) rest first e =
    let both = map_value (λ (value : List ℕ). (value, behind)) (Some word) (first, rest) e in
    let same : both.0 ≡ word = cc in
    let first_is : word ≡ first = sym same ∙ ap (λ p. p.0) both.2 in
    let rest_is : behind ≡ rest = ap (λ p. p.1) both.2 in
    rw first_is (rw rest_is refl)

pub found_as : (part : Part) (words rest : List (List ℕ)) (first : List ℕ) (read : Result (Value part) LineFault) → first_word a_text words ≡ Some (first, rest)
    → IsFound (λ value. value) read (word_value part first) → IsFound (λ value. (value, rest)) read (first_word part words)
found_as part words rest first (Ok value) e h = first_word_as part words rest first e ∙ ap (option_map (λ v. (v, rest))) h
found_as part words rest first (Err fault) e (inl wanted) = inl wanted
found_as part words rest first (Err fault) e (inr refused) = inr (refused.0, first_word_as part words rest first e ∙ ap (option_map (λ v. (v, rest))) refused.1)
