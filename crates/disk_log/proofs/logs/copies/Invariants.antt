use Rattle.std.proofs.Common.{◌≡◌, take}
use Rattle.disk_log.proofs.logs.copies.Given as goal

abbrev pub invariant-loop-index : goal.invariant-loop-index
invariant-loop-index l = record {
  same : l.records ≡ l.fn.records;
  so_far : l.copies.items ≡ take l.index l.records.items;
}
