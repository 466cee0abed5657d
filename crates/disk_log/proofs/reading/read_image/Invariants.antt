use Rattle.std.proofs.Common.{◌-◌, length}
use Rattle.disk_log.specs.Standing.{IsReadTo}
use Rattle.disk_log.proofs.reading.read_image.Given as goal

abbrev pub invariant-loop-place : goal.invariant-loop-place
invariant-loop-place l = IsReadTo l.bytes l.records.items l.place

abbrev pub decreases-loop-place : goal.decreases-loop-place
decreases-loop-place l = length l.bytes - l.place
