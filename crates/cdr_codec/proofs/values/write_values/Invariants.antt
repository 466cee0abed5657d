use Rattle.std.proofs.Common.{◌≡◌, drop}
use Rattle.cdr_codec.specs.Arguments.{written_value}
use Rattle.cdr_codec.specs.Calls.{appended_each}
use Rattle.cdr_codec.proofs.values.write_values.Given as goal

-- the values that are left, behind what was written
abbrev pub invariant-loop-value : goal.invariant-loop-value
invariant-loop-value l = appended_each written_value (drop l.value-index l.values) l.writer ≡ appended_each written_value l.fn.values l.fn.writer
