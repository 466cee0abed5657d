-- Which records can be read again as what they were written of: their fields are in their ranges, and they are
-- short.
use Rattle.std.specs.Prelude.{◌≡◌, ℕ, ◌+◌, ◌<◌, ◌≤◌, true, List, length}
use Rattle.ft_base.specs.declared.limits.TheConstants.{JOURNAL_LIMIT}
use Rattle.reply_table.specs.declared.entries.Retained.{Retained}
use Rattle.log_records.specs.Records.{optional, tick, request, entry, view, outcome, checkpoint, are_rising, entry_record, view_record, checkpoint_record, AreOfVersions}
use Rattle.log_records.specs.declared.records.Record.{Record}
use Rattle.log_records.specs.declared.records.Record.TheVariants as records

-- a record, as it is written
abbrev pub record_of : Record → List ℕ
record_of (records.Entry e) = entry_record e
record_of (records.View v) = view_record v
record_of (records.Checkpoint k) = checkpoint_record k

-- its fields are in their ranges
abbrev pub IsValid : Record → Type 0
IsValid (records.Entry e) = entry.Valid e
IsValid (records.View v) = view.Valid v
IsValid (records.Checkpoint k) = checkpoint.Valid k

-- the places of a record are unsigned longs
abbrev pub IsShort : List ℕ → Type 0
IsShort piece = length piece + 8 < 4294967296

pub record IsWritable (told : Record) : Type 0 where
  pub valid : IsValid told
  pub short : IsShort (record_of told)

-- What only a log knows of its checkpoint: the mark is a journal's, the positions of what is retained rise below
-- it, and the versions are views'.
pub record CanStand (mark : ℕ) (retained : List Retained) : Type 0 where
  pub fits : mark ≤ JOURNAL_LIMIT
  pub rising : are_rising 0 mark retained ≡ true
  pub versions : AreOfVersions retained

-- what the types of a retained entry know: its tick, its request and its reply are in their ranges
pub record IsHeld (e : Retained) : Type 0 where
  pub at : tick.Valid e.at
  pub request : request.Valid e.request
  pub reply : (optional outcome).Valid e.reply
