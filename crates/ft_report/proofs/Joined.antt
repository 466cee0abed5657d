-- A line's parts that are written one after another.
use Rattle.std.proofs.Common.{◌≡◌, ℕ, List, [], ◌∷◌, ◌++◌, ap, append_assoc, append-nil, ◌∙◌, sym}
use Rattle.std.specs.List.{flat_map}
use Rattle.report_words.specs.Words.{line, phrase_text}

-- parts that are written one behind the other
abbrev pub written_behind : List ℕ → List (List ℕ) → List ℕ
written_behind text [] = text
written_behind text (part ∷ parts) = written_behind (text ++ part) parts

pub parts_join : (text : List ℕ) (parts : List (List ℕ)) → written_behind text parts ≡ text ++ flat_map (λ part. part) parts
parts_join text [] = sym (append-nil text)
parts_join text (part ∷ parts) = parts_join (text ++ part) parts ∙ append_assoc text part (flat_map (λ more. more) parts)

-- parts that are written one behind the other, and the line's end, are the line whose words they are
pub parts_line : (text : List ℕ) (parts words : List (List ℕ)) → flat_map (λ part. part) parts ≡ phrase_text words
    → written_behind text parts ++ 10 ∷ [] ≡ text ++ line words
parts_line text parts words e =
    ap (λ (said : List ℕ). said ++ 10 ∷ []) (parts_join text parts ∙ ap (λ (said : List ℕ). text ++ said) e)
    ∙ append_assoc text (phrase_text words) (10 ∷ [])
