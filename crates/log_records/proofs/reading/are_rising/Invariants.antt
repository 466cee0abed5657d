use Rattle.std.proofs.Common.{◌≡◌, drop}
use Rattle.log_records.specs.Records.{are_rising}
use Rattle.log_records.proofs.reading.are_rising.Given as goal

-- what is left decides
abbrev pub invariant-loop-entry : goal.invariant-loop-entry
invariant-loop-entry l = are_rising l.from l.end (drop l.entry-index l.entries) ≡ are_rising 0 l.end l.entries
