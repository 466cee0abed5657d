use Rattle.std.proofs.Common.{◌≡◌, ◌++◌, map, take}
use Rattle.std.specs.List.{flat_map}
use Rattle.report_words.specs.Words.{line, word_text}
use Rattle.made_scripts.proofs.lines.push_lines.Given as goal

-- the lines so far
abbrev pub invariant-loop-words : goal.invariant-loop-words
invariant-loop-words l =
    l.text.items ≡ l.initial.text.items ++ flat_map (λ words. line (map word_text words.now)) (take l.words-index l.lines)
