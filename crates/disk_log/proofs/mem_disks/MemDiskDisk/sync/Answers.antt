use Rattle.std.proofs.Common.{sym, subst}
use Rattle.disk_log.specs.Disk.{NoOthers}
use Rattle.disk_log.specs.Calls.{Memory, IsImage}
use Rattle.disk_log.proofs.Replay.{synced_before}
use Rattle.disk_log.proofs.mem_disks.MemDiskDisk.sync.Goals as goal

pub returns-clause-images : goal.returns-clause-images
returns-clause-images c =
    let old = c.args.self.now in
    subst (λ (m : Memory). NoOthers (IsImage old.first old.changes) (IsImage m.first m.changes)) (sym c.flush.ensures.kept) (synced_before old c.flush.result)
