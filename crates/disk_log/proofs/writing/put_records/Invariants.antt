use Rattle.std.proofs.Common.{◌≡◌, ◌≤◌, ◌<◌, ◌^◌, take}
use Rattle.disk_log.specs.Standing.{IsLaid}
use Rattle.disk_log.proofs.writing.put_records.Given as goal

abbrev pub invariant-loop-index : goal.invariant-loop-index
invariant-loop-index g l = record {
  same : l.records ≡ l.fn.records;
  laid : IsLaid (g.D.Disk.gives l.disk) (take l.index l.records.items) l.end;
  room : l.end ≤ g.D.Disk.size l.disk;
  fits : l.end < 2 ^ 64;
  faults : g.D.Disk.faults l.disk ≡ g.D.Disk.faults l.fn.disk;
}
