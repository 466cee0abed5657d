use Rattle.std.proofs.Common.{length, arith}
use Rattle.disk_log.specs.Standing.{Begins}
use Rattle.disk_log.proofs.Begin.{torn_begins, written_begins, each_torn}
use Rattle.disk_log.proofs.Moments.{leaves, on_done}
use Rattle.disk_log.proofs.writing.put.Goals as goal

pub returns-clause-keeps : goal.returns-clause-keeps
returns-clause-keeps g c = λ front le before.
    let old = c.args.disk.now in
    let after = each_torn (Begins front) (g.D.Disk.images old) (g.D.Disk.images c.write_at.new.self) c.args.at (length c.args.piece.now) c.write_at.ensures.images (λ d e b torn. torn_begins front c.args.at (length c.args.piece.now) d e le b torn) before in
    (after, leaves g.D.Disk.moment g.D.Disk.since old c.write_at.new.self (Begins front) (g.D.Disk.images old) (g.D.Disk.images c.write_at.new.self) (λ d since. g.met.D.Disk.only_now old d since) c.write_at.ensures.time before after)

pub returns-clause-written : goal.returns-clause-written
returns-clause-written g c =
    on_done c.write_at.result _ _ (λ follows front e before d given.
    let from = follows d given in
    written_begins front c.args.at c.args.piece.now from.0 d e (before from.0 from.1) from.2) c.write_at.ensures.written

pub returns-clause-room : goal.returns-clause-room
returns-clause-room g c =
    on_done c.write_at.result _ _ (λ size. omega (arith, size)) c.write_at.ensures.size
