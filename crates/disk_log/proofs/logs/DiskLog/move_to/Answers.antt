use Rattle.std.proofs.Common.{sym, subst, List, ℕ}
use Rattle.disk_log.specs.Standing.{AreShort}
use Rattle.disk_log.proofs.Whole.{stands_short}
use Rattle.disk_log.proofs.logs.DiskLog.move_to.Goals as goal

pub lay-requires : goal.lay-requires
lay-requires g c =
    let log = c.self.inside in
    subst (λ (l : List (List ℕ)). AreShort l) (sym c.in-Ok.ensures) (stands_short log.doubt (g.D.Disk.images log.disk) log.end log.records.items log.failed c.self.invariant.stands)
