use Rattle.std.proofs.Common.{◌≡◌, take}
use Rattle.fault_script.specs.Words.{texts}
use Rattle.fault_script.proofs.lines.Words.of.Given as goal

-- the words so far
abbrev pub invariant-loop-word : goal.invariant-loop-word
invariant-loop-word l = l.copies.items ≡ texts (take l.word-index l.words)
