use Rattle.std.proofs.Common.{◌≡◌, drop, Some}
use Rattle.fault_script.specs.Options.{with_options, options_of}
use Rattle.fault_script.proofs.options.read_options.Given as goal

-- the words that are left complete what the words so far say
abbrev pub invariant-loop-word : goal.invariant-loop-word
invariant-loop-word l = with_options (drop l.word-index l.words) (Some l.options) ≡ options_of l.words
