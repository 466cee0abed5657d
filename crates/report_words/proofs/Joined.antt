-- Words that are joined one after another.
use Rattle.std.proofs.Common.{◌≡◌, ℕ, List, ◌∷◌, ◌++◌, map, ap, ◌∙◌, sym}
use Rattle.std.proofs.lemmas.List.Folds.{flat_map-map}
use Rattle.std.specs.List.{IsFirstAndRest, flat_map}
use Rattle.report_words.specs.Words.{joined_text, word_text}
use Rattle.report_words.specs.declared.words.Word.{Word}

-- the first word's text, and each other's behind the separator, are the words joined_text
pub joined_words : (separator : ℕ) (words : List Word) (first : Word) (rest : List Word) → IsFirstAndRest words first rest
    → word_text first ++ flat_map (λ word. separator ∷ word_text word) rest ≡ joined_text separator (map word_text words)
joined_words separator words first rest split =
    ap (λ (more : List ℕ). word_text first ++ more) (sym (flat_map-map (λ next. separator ∷ next) word_text rest))
    ∙ ap (λ (all : List Word). joined_text separator (map word_text all)) (sym split.0)
