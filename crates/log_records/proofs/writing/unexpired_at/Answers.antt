use Rattle.std.proofs.Common.{sym}
use Rattle.log_records.proofs.WritingLaws.{unexpired_here, expired_here, none_here}
use Rattle.log_records.proofs.writing.unexpired_at.Goals as goal
use Rattle.log_records.proofs.writing.unexpired_at.Goals.{in_default-via-in-Some+else-is_unexpired, in_default-via-in_default}

pub returns-in-Some : goal.returns-in-Some
returns-in-Some c =
    unexpired_here c.args.time.0 c.args.table.now.entries c.args.index c.in-Some.entry.now (sym c.in-Some.ensures) (sym c.if-is_unexpired.ensures)

pub returns-in_default : goal.returns-in_default
returns-in_default c =
    elim c.in_default.branch [
      | in_default-via-in-Some+else-is_unexpired w ↦
          expired_here c.args.time.0 c.args.table.now.entries c.args.index w.in-Some.entry.now (sym w.in-Some.ensures) (sym w.if-is_unexpired.ensures)
      | in_default-via-in_default w ↦ none_here c.args.time.0 c.args.table.now.entries c.args.index (sym w.in_default.ensures)
    ]
