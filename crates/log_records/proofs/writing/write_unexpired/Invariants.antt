use Rattle.std.proofs.Common.{◌≡◌, drop}
use Rattle.std.specs.List.{AllByRecursion}
use Rattle.cdr_codec.specs.Calls.{appended_each}
use Rattle.reply_table.specs.Entries.{unexpired}
use Rattle.log_records.specs.Records.{retained}
use Rattle.log_records.specs.Writable.{IsHeld}
use Rattle.log_records.proofs.writing.write_unexpired.Given as goal

-- those that are left, behind what was written; all are held where these are
abbrev pub invariant-loop-index : goal.invariant-loop-index
invariant-loop-index l =
    (appended_each retained.written (unexpired l.time.0 (drop l.index l.table.entries)) l.writer
    ≡ appended_each retained.written (unexpired l.time.0 l.table.entries) l.fn.writer)
    × (AllByRecursion IsHeld (unexpired l.time.0 (drop l.index l.table.entries)) → AllByRecursion IsHeld (unexpired l.time.0 l.table.entries))
