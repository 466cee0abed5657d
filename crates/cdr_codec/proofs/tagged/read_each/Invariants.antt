use Rattle.std.proofs.Common.{◌≡◌, ◌-◌}
use Rattle.std.specs.List.{All}
use Rattle.cdr_codec.specs.Formats.{tagged, read_each}
use Rattle.cdr_codec.specs.Tagged.{IsShort}
use Rattle.cdr_codec.proofs.CodecLaws.{with_front}
use Rattle.cdr_codec.proofs.tagged.read_each.Given as goal

-- those that were read, in front of those that are left
abbrev pub invariant-loop : goal.invariant-loop
invariant-loop g l = record {
  read : with_front l.all.items (read_each (tagged g.T.Tagged.made g.T.Tagged.parts).read (l.count - l.counter) l.reader)
      ≡ read_each (tagged g.T.Tagged.made g.T.Tagged.parts).read l.count l.fn.reader;
  short : All (IsShort g.T.Tagged.parts) l.all.items;
}
