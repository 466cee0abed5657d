use Rattle.std.proofs.Common.{◌≡◌, ◌++◌, ◌∷◌, take}
use Rattle.std.specs.List.{flat_map}
use Rattle.report_words.specs.Words.{word_text}
use Rattle.report_words.proofs.words.push_each.Given as goal

-- the words so far
abbrev pub invariant-loop-word : goal.invariant-loop-word
invariant-loop-word l =
    l.text.items ≡ l.initial.text.items ++ flat_map (λ word. l.separator ∷ word_text word) (take l.word-index l.words)
