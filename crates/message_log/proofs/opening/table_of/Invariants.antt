use Rattle.std.proofs.Common.{◌≡◌, ℕ, ◌<◌, ◌≤◌, true, []}
use Rattle.std.specs.Vec.Iter.{into_iter_items, into_iter_len}
use Rattle.std.specs.List.{AllByRecursion}
use Rattle.log_records.specs.Records.{are_rising, AreOfVersions}
use Rattle.message_log.specs.Opening.{filed}
use Rattle.message_log.specs.Retaining.{AreRetained}
use Rattle.message_log.proofs.opening.table_of.Given as goal

-- those that were added, and those that are left, whose positions rise from some number on
abbrev pub invariant-loop-entry : goal.invariant-loop-entry
invariant-loop-entry l =
    (filed l.table.entries (into_iter_items l.rest) ≡ filed [] l.fn.retained)
    × ((from : ℕ) × (are_rising from l.end (into_iter_items l.rest) ≡ true) × AllByRecursion (λ e. e.position < from) l.table.entries
    × AllByRecursion (λ e. e.position < l.end) l.table.entries × AreOfVersions l.table.entries × AreRetained from l.table.entries × (from ≤ l.end)
    × AreOfVersions (into_iter_items l.rest))

abbrev pub decreases-loop-entry : goal.decreases-loop-entry
decreases-loop-entry l = into_iter_len l.rest
