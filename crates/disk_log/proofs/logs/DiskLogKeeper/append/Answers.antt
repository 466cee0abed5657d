use Rattle.std.proofs.Common.{rules, ◌≡◌, [], ◌∷◌, ◌++◌}
use Rattle.disk_log.proofs.Holding.{rest_done}
use Rattle.disk_log.proofs.logs.DiskLogKeeper.append.Goals as goal

pub returns-in-Done-clause-at_rest : goal.returns-in-Done-clause-at_rest
returns-in-Done-clause-at_rest g c =
    let records = c.self.inside.records.items in
    let after = c.in-Done.ensures.added records c.self.inside.failed c.self.invariant.stands in
    let same : c.push_back_reserved.new.self.items ≡ records ++ c.bytes.result.now ∷ [] = search rules in
    rest_done c.add_record.new.doubt (g.D.Disk.images c.add_record.new.disk) c.add_record.new.end (records ++ c.bytes.result.now ∷ []) c.push_back_reserved.new.self.items c.none.result after.1 same
