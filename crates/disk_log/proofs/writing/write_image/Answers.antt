use Rattle.std.proofs.Common.{map, sym}
use Rattle.disk_log.specs.Image.{Add}
use Rattle.disk_log.specs.Standing.{front_of}
use Rattle.disk_log.proofs.Whole.{laid_calm}
use Rattle.disk_log.proofs.writing.write_image.Goals as goal

pub returns-in-Done-sync-clause-calm : goal.returns-in-Done-sync-clause-calm
returns-in-Done-sync-clause-calm g c =
    let records = c.args.records.now.items in
    let laid = c.in-Some.ensures.written in
    let whole = c.in-Done.ensures.written (front_of (map Add records)) (sym laid.0) laid.1 in
    laid_calm (g.D.Disk.gives c.put_records.new.disk) (g.D.Disk.images c.sync.new.self) records c.in-Some.end c.requires laid
    (λ d now. whole d (c.sync.ensures.gives d (c.in-Done-sync.ensures.durable d now)))
