-- Lines that are written one after another.
use Rattle.std.proofs.Common.{◌≡◌, ◌<◌, ◌+◌, ℕ, List, [], ◌∷◌, ◌++◌, codes, ap, append_assoc, ◌∙◌, sym}
use Rattle.std.proofs.lemmas.List.{flat_map_more}
use Rattle.std.proofs.lemmas.Fmt.{decimal_digit}
use Rattle.report_words.specs.Words.{line}
use Rattle.made_scripts.specs.Lines.{client, text_of}

-- a line, another, some lines and a last one, behind a text
lines_joined : (text first next : List ℕ) (more : List (List (List ℕ))) (last : List (List ℕ))
    → (((text ++ first) ++ next) ++ text_of more) ++ line last ≡ text ++ (first ++ (next ++ text_of (more ++ last ∷ [])))
lines_joined text first next more last =
    append_assoc ((text ++ first) ++ next) (text_of more) (line last)
    ∙ append_assoc (text ++ first) next (text_of more ++ line last)
    ∙ append_assoc text first (next ++ (text_of more ++ line last))
    ∙ ap (λ (t : List ℕ). text ++ (first ++ (next ++ t))) (flat_map_more line [] more last)

-- the same, written one after another
pub lines_written : (before one two three after : List ℕ) (first next : List (List ℕ)) (more : List (List (List ℕ))) (last : List (List ℕ))
    → one ≡ before ++ line first → two ≡ one ++ line next → three ≡ two ++ text_of more → after ≡ three ++ line last
    → after ≡ before ++ text_of (first ∷ next ∷ (more ++ last ∷ []))
lines_written before one two three after first next more last a b c d =
    d ∙ ap (λ (t : List ℕ). t ++ line last)
    (c ∙ ap (λ (t : List ℕ). t ++ text_of more) (b ∙ ap (λ (t : List ℕ). t ++ line next) a))
    ∙ lines_joined before (line first) (line next) more last

-- a client's name, where its number is one digit
pub client_is : (number digit : ℕ) → number ≡ digit → digit < 10 → codes "c" ++ (48 + digit) ∷ [] ≡ client number
client_is number digit is small = ap (λ (text : List ℕ). codes "c" ++ text) (sym (decimal_digit digit small)) ∙ ap client (sym is)
