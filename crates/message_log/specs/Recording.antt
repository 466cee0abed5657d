-- What a writing call leaves is written down, and so is what it would have left, where the keeper says that it failed:
-- its record may be there all the same when the log is opened again.
use Rattle.std.specs.Prelude.{◌≡◌, ℕ, ◌+◌, Bool, List, [], ◌∷◌, ◌++◌, Option}
use Rattle.ft_base.specs.declared.numbers.Tick.{Tick}
use Rattle.ft_base.specs.declared.numbers.Version.{Version}
use Rattle.ft_base.specs.declared.requests.Request.{Request}
use Rattle.ft_base.specs.declared.views.View.{View}
use Rattle.log_records.specs.Records.{entry_record, view_record, checkpoint_record}
use Rattle.log_records.specs.Writable.{IsWritable}
use Rattle.log_records.specs.declared.records.Record.TheVariants as records
use Rattle.message_log.specs.Calls.{kept, accepted_by, with_entry, with_view, checkpoint_of, checkpointed}
use Rattle.message_log.specs.Picture.{Picture}
use Rattle.message_log.specs.Written.{IsWrittenDown, IsOpenedAgain}
use Rattle.message_log.specs.declared.tidying.Tidied.{Tidied}
use Rattle.message_log.specs.declared.tidying.Tidied.TheVariants.{Cut, Uncut, Unwritten}

-- each log that is written down is opened again
abbrev pub WrittenLogsAreOpenedAgain : Type 0
WrittenLogsAreOpenedAgain = (log : Picture) → IsWrittenDown log → IsOpenedAgain log

-- ---- a request joins

abbrev pub joined_as_written : Picture → Version → Tick → Request → Option (List Bool) → ℕ → Picture
joined_as_written log version clock request plan faults =
    kept (with_entry log version clock request) (log.records ++ entry_record (accepted_by log version clock request) ∷ []) plan faults

abbrev pub EntriesAreWrittenDown : Type 0
EntriesAreWrittenDown = (log : Picture) → IsWrittenDown log → (version : Version) (clock : Tick) (request : Request) →
    IsWritable (records.Entry (accepted_by log version clock request)) →
    (plan : Option (List Bool)) (faults : ℕ) → IsWrittenDown (joined_as_written log version clock request plan faults)

-- ---- the next view

abbrev pub viewed_as_written : Picture → View → Option (List Bool) → ℕ → Picture
viewed_as_written log view plan faults = kept (with_view log view) (log.records ++ view_record view ∷ []) plan faults

abbrev pub ViewsAreWrittenDown : Type 0
ViewsAreWrittenDown = (log : Picture) → IsWrittenDown log → (view : View) → view.version.0 ≡ log.newest.version.0 + 1 → IsWritable (records.View view) →
    (plan : Option (List Bool)) (faults : ℕ) → IsWrittenDown (viewed_as_written log view plan faults)

-- ---- a checkpoint

-- its record is behind all others; then the view is, too; then the others are cut
abbrev pub records_when : Tidied → List (List ℕ) → List ℕ → List ℕ → List (List ℕ)
records_when Unwritten others checkpoint view = others ++ checkpoint ∷ []
records_when Uncut others checkpoint view = others ++ checkpoint ∷ view ∷ []
records_when Cut others checkpoint view = checkpoint ∷ view ∷ []

abbrev pub cut_as_written : Picture → Tick → List ℕ → Tidied → Option (List Bool) → ℕ → Picture
cut_as_written log clock state how plan faults =
    kept (checkpointed log clock state) (records_when how log.records (checkpoint_record (checkpoint_of log clock state)) (view_record log.newest)) plan faults

abbrev pub CheckpointsAreWrittenDown : Type 0
CheckpointsAreWrittenDown = (log : Picture) → IsWrittenDown log → (clock : Tick) (state : List ℕ) →
    IsWritable (records.Checkpoint (checkpoint_of log clock state)) → IsWritable (records.View log.newest) →
    (how : Tidied) (plan : Option (List Bool)) (faults : ℕ) → IsWrittenDown (cut_as_written log clock state how plan faults)
