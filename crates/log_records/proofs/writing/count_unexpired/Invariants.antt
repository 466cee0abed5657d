use Rattle.std.proofs.Common.{◌≡◌, ◌+◌, ◌≤◌, length, drop}
use Rattle.reply_table.specs.Entries.{unexpired}
use Rattle.log_records.proofs.writing.count_unexpired.Given as goal

-- those that were counted, and those that are left
abbrev pub invariant-loop-index : goal.invariant-loop-index
invariant-loop-index l =
    (l.left ≤ l.index) × (l.left + length (unexpired l.time.0 (drop l.index l.table.entries)) ≡ length (unexpired l.time.0 l.table.entries))
