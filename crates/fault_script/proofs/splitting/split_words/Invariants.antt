use Rattle.std.proofs.Common.{◌≡◌, ◌++◌, length}
use Rattle.fault_script.specs.Words.{texts, words}
use Rattle.fault_script.proofs.splitting.split_words.Given as goal

-- the words so far, and those of the rest
abbrev pub invariant-words : goal.invariant-words
invariant-words l = texts l.found.items ++ words l.rest ≡ words l.line

abbrev pub decreases-words : goal.decreases-words
decreases-words l = length l.rest
