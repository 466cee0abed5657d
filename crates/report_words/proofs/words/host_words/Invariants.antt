use Rattle.std.proofs.Common.{◌≡◌, map, decimal, take}
use Rattle.report_words.specs.Words.{word_text}
use Rattle.report_words.proofs.words.host_words.Given as goal

-- the numbers so far
abbrev pub invariant-loop-host : goal.invariant-loop-host
invariant-loop-host l = map word_text l.words.items ≡ map decimal (take l.host-index l.hosts)
