use Rattle.std.proofs.Common.{◌≡◌, take, Some}
use Rattle.fault_script.specs.Words.{texts, each}
use Rattle.fault_script.specs.Parts.{a_host, word_value}
use Rattle.fault_script.proofs.forms.read_members.Given as goal

-- the hosts so far
abbrev pub invariant-loop-word : goal.invariant-loop-word
invariant-loop-word l = each (word_value a_host) (texts (take l.word-index l.hosts)) ≡ Some l.numbers.items
