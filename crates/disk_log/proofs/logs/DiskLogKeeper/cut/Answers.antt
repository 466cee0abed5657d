use Rattle.std.proofs.Common.{rules, ◌≡◌, ◌≤◌, length, drop}
use Rattle.disk_log.proofs.Holding.{rest_done}
use Rattle.disk_log.proofs.logs.DiskLogKeeper.cut.Goals as goal

pub returns-in-Done-clause-at_rest : goal.returns-in-Done-clause-at_rest
returns-in-Done-clause-at_rest g c =
    let records = c.self.inside.records.items in
    let le : c.args.first ≤ length records = search rules in
    let after = c.in-Done.ensures.dropped records c.self.inside.failed le c.self.invariant.stands in
    let same : c.drop_first.new.records.items ≡ drop c.args.first records = search rules in
    rest_done c.cut_records.new.doubt (g.D.Disk.images c.cut_records.new.disk) c.cut_records.new.end (drop c.args.first records) c.drop_first.new.records.items c.none.result after.1 same
