use Rattle.std.proofs.Common.{◌≡◌, ◌<◌, ℕ, drop}
use Rattle.std.specs.Prelude.{slice_index_or}
use Rattle.cdr_codec.specs.Formats.{tagged}
use Rattle.cdr_codec.specs.Calls.{appended_each, Keeps}
use Rattle.cdr_codec.specs.Tagged.{IsNumbered}
use Rattle.cdr_codec.proofs.tagged.write_each.Given as goal

-- those that are left, behind what was written
abbrev pub invariant-loop-one : goal.invariant-loop-one
invariant-loop-one g l = record {
  written : appended_each (tagged g.T.Tagged.made g.T.Tagged.parts).written (drop l.one-index l.all) l.writer
      ≡ appended_each (tagged g.T.Tagged.made g.T.Tagged.parts).written l.fn.all l.fn.writer;
  kept : Keeps l.fn.writer l.writer;
  numbered : (k : ℕ) (d : g.row.T.Denot) → k < l.one-index → IsNumbered g.T.Tagged.parts (slice_index_or l.all k d);
}
