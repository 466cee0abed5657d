use Rattle.std.proofs.Common.{◌≡◌, sym, subst, length}
use Rattle.disk_log.specs.Disk.{Torn, Follows}
use Rattle.disk_log.specs.Calls.{Memory, content, IsImage}
use Rattle.disk_log.proofs.Replay.{images_follow, content_follows}
use Rattle.disk_log.proofs.mem_disks.MemDiskDisk.write_at.Goals as goal

pub returns-clause-torn : goal.returns-clause-torn
returns-clause-torn c =
    let old = c.args.self.now in
    subst (λ (m : Memory). Follows (Torn c.args.at (length c.args.piece.now)) (λ r. r ≡ content old.first old.changes) (λ r. r ≡ content m.first m.changes)) (sym c.write.ensures.kept) (content_follows old c.args.at c.args.piece.now)

pub returns-clause-images : goal.returns-clause-images
returns-clause-images c =
    let old = c.args.self.now in
    subst (λ (m : Memory). Follows (Torn c.args.at (length c.args.piece.now)) (IsImage old.first old.changes) (IsImage m.first m.changes)) (sym c.write.ensures.kept) (images_follow old c.args.at c.args.piece.now)
