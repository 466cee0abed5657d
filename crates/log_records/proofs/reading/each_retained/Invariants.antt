use Rattle.std.proofs.Common.{◌≡◌, ◌-◌}
use Rattle.cdr_codec.specs.Formats.{read_each}
use Rattle.cdr_codec.proofs.CodecLaws.{with_front}
use Rattle.log_records.specs.Records.{retained, AreOfVersions}
use Rattle.log_records.proofs.reading.each_retained.Given as goal

-- those that were read, in front of those that are left
abbrev pub invariant-loop : goal.invariant-loop
invariant-loop l =
    (with_front l.all.items (read_each retained.read (l.count - l.counter) l.reader) ≡ read_each retained.read l.count l.fn.reader) × AreOfVersions l.all.items
