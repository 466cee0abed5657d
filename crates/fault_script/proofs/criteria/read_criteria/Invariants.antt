use Rattle.std.proofs.Common.{◌≡◌, take, Some}
use Rattle.fault_script.specs.Words.{texts, each}
use Rattle.fault_script.specs.Properties.{criterion}
use Rattle.fault_script.proofs.criteria.read_criteria.Given as goal

-- the properties so far
abbrev pub invariant-loop-word : goal.invariant-loop-word
invariant-loop-word l = each criterion (texts (take l.word-index l.words)) ≡ Some l.properties.items
