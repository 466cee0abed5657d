-- What the records of a log say of it, so that a log that is stopped after any of its calls and opened again
-- has the same newest view, entries, mark, time and state, and retains the same requests.
use Rattle.std.specs.Prelude.{◌≡◌, ℕ, ◌+◌, Bool, true, List, [], length, Option, Some, Ok}
use Rattle.log_records.specs.Records.{record_in}
use Rattle.log_records.specs.Writable.{record_of, IsWritable}
use Rattle.log_records.specs.declared.records.Record.{Record}
use Rattle.message_log.specs.Picture.{Picture}
use Rattle.message_log.specs.Opening.{Content, content_of, IsReopened, IsBad}
use Rattle.message_log.specs.Retaining.{AreRetained, recorded}
use Rattle.message_log.specs.declared.answers.ReopenFault.{ReopenFault}
use Rattle.message_log.specs.declared.answers.ReopenFault.TheVariants.{NoMemory}

-- a record is read as what it was written of
abbrev pub RecordsAreRead : Type 0
RecordsAreRead = (told : Record) → IsWritable told → record_in (record_of told) ≡ Some told

-- ---- a log, and what its records say

-- these records say what is held, but for the replies that were given since the last checkpoint
pub record IsOnRecord (records : List (List ℕ)) (held : Content) : Type 0 where
  pub says : content_of records ≡ Ok (record held { table = recorded held.mark held.table })
  pub retained : AreRetained (held.mark + length held.entries) held.table

-- what a log holds
abbrev pub held_by : Picture → Content
held_by log = record {
  newest = Some log.newest;
  begun = true;
  mark = log.mark;
  entries = log.entries;
  time = log.time;
  state = log.state;
  table = log.table;
}

-- the log is written down
abbrev pub IsWrittenDown : Picture → Type 0
IsWrittenDown log = IsOnRecord log.records (held_by log)

-- ---- a log that was opened again

-- beside the log that had been stopped
pub record IsResumed (stopped again : Picture) : Type 0 where
  pub newest : again.newest ≡ stopped.newest
  pub mark : again.mark ≡ stopped.mark
  pub entries : again.entries ≡ stopped.entries
  pub time : again.time ≡ stopped.time
  pub state : again.state ≡ stopped.state
  pub table : again.table ≡ recorded stopped.mark stopped.table
  pub records : again.records ≡ stopped.records

-- each log that its records make resumes it
abbrev pub IsOpenedAgain : Picture → Type 0
IsOpenedAgain log = (again : Picture) (plan : Option (List Bool)) (faults : ℕ) → IsReopened log.records plan faults again → IsResumed log again

-- only memory can be wanting
abbrev pub IsNeverBad : Picture → Type 0
IsNeverBad log = (fault : ReopenFault) → IsBad (content_of log.records) fault → fault ≡ NoMemory

-- with no entry behind the mark it has each reply
abbrev pub KeepsReplies : Picture → Type 0
KeepsReplies log = log.entries ≡ [] → log.table ≡ recorded log.mark log.table
