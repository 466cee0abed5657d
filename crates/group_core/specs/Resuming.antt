-- A core that goes on over a log that was opened again. All hosts of its group had stopped; they are up again, and blank.
use Rattle.std.specs.Prelude.{◌≡◌, ℕ, ◌+◌, ◌≤◌, max, Bool, true, List, [], ◌∷◌, ◌++◌, length, Option}
use Rattle.ft_base.specs.Machine.{Machine, Fits}
use Rattle.ft_base.specs.declared.admissions.Admission.TheVariants.{New}
use Rattle.ft_base.specs.declared.limits.TheConstants.{ARGUMENTS_LIMIT}
use Rattle.ft_base.specs.declared.numbers.Tick.{Tick}
use Rattle.ft_base.specs.declared.numbers.Version.{Version}
use Rattle.ft_base.specs.declared.requests.Request.{Request}
use Rattle.ft_base.specs.declared.views.Style.{Style}
use Rattle.ft_base.specs.declared.views.View.{View}
use Rattle.log_records.specs.Records.{entry_record, view_record, checkpoint_record}
use Rattle.log_records.specs.Writable.{IsWritable}
use Rattle.log_records.specs.declared.records.Record.TheVariants as records
use Rattle.message_log.specs.Admission.{admitted}
use Rattle.message_log.specs.Calls.{accepted_by, checkpoint_of}
use Rattle.message_log.specs.Opening.{IsBad, IsReopened, content_of}
use Rattle.message_log.specs.Picture.{Picture as LogPicture}
use Rattle.message_log.specs.Recording.{records_when}
use Rattle.message_log.specs.Written.{IsWrittenDown}
use Rattle.message_log.specs.declared.answers.Admit.TheVariants as admits
use Rattle.message_log.specs.declared.answers.ReopenFault.{ReopenFault}
use Rattle.message_log.specs.declared.answers.ReopenFault.TheVariants.{NoMemory}
use Rattle.message_log.specs.declared.tidying.Tidied.{Tidied}
use Rattle.group_model.specs.Agreeing.{IsSound}
use Rattle.group_model.specs.Changes.{with_view}
use Rattle.group_model.specs.Plain.{Group, blank, state_at}
use Rattle.group_model.specs.Reopening.{reopened}
use Rattle.group_model.specs.Serving.{joined}
use Rattle.group_model.specs.Transfers.{marked}
use Rattle.group_model.specs.declared.changes.Change.{Change}
use Rattle.group_stands.specs.Stands.{LogStands, OpeningStands}
use Rattle.group_stands.specs.Viewing.{IsNextView}
use Rattle.group_core.specs.Cores.{CorePicture, Stands}

-- A core of this number, style and opening may go on over the log as this group: the log stands for it, its hosts are all
-- up and blank, no host has run anything since the checkpoint, and it has the log's newest view.
pub record MayResume (machines : ℕ → Machine) (its_id : ℕ) (its_style : Style) (its_kind : ℕ) (its_opening : List ℕ) (its_log : LogPicture) (g : Group) : Type 0 where
  pub id : its_id ≡ g.common.id
  pub style : its_style ≡ g.common.style
  pub opening : OpeningStands g.common its_kind its_opening
  pub log : LogStands machines g.common its_log
  pub hosts : (i : ℕ) → g.hosts i ≡ blank true
  pub ran : g.common.ran ≡ g.common.mark
  pub first_kept : g.common.first_kept ≡ its_log.newest.version.0
  pub sound : IsSound (machines g.common.kind) g

-- A log can be opened from these records, where there is memory; and a core may go on over each such log as the group
-- after a stop of all its hosts.
pub record GoesOnFrom (machines : ℕ → Machine) (core : CorePicture) (pieces : List (List ℕ)) (g : Group) : Type 0 where
  pub opens : (fault : ReopenFault) → IsBad (content_of pieces) fault → fault ≡ NoMemory
  pub resumes : (again : LogPicture) (plan : Option (List Bool)) (faults : ℕ) → IsReopened pieces plan faults again →
      MayResume machines core.id core.style core.kind core.opening again (reopened g)

-- so it is of the records of a core's keeper
abbrev pub CoresMayGoOn : Type 0
CoresMayGoOn = (machines : ℕ → Machine) (core : CorePicture) (g : Group) → Stands machines core g → IsWrittenDown core.log →
    GoesOnFrom machines core core.log.records g

-- ---- of the records that a write which failed would have made

-- a request's, for the group that has its entry
abbrev pub EntriesMayBeThere : Type 0
EntriesMayBeThere = (machines : ℕ → Machine) (core : CorePicture) (g : Group) → Stands machines core g → IsWrittenDown core.log →
    (version : Version) (clock : Tick) (request : Request) → admitted core.log version.0 clock.0 request ≡ admits.Admission New →
    Fits (machines g.common.kind) request → length request.args ≤ ARGUMENTS_LIMIT → IsWritable (records.Entry (accepted_by core.log version clock request)) →
    GoesOnFrom machines core (core.log.records ++ entry_record (accepted_by core.log version clock request) ∷ [])
    (record g { common = joined g.common (max clock.0 g.common.time) request })

-- the next view's, for the group that has it
abbrev pub ViewsMayBeThere : Type 0
ViewsMayBeThere = (machines : ℕ → Machine) (core : CorePicture) (g : Group) → Stands machines core g → IsWrittenDown core.log →
    (change : Change) (view : View) → IsNextView g.common change view → IsWritable (records.View view) →
    GoesOnFrom machines core (core.log.records ++ view_record view ∷ []) (record g { common = with_view g.common view })

-- a checkpoint's, in each of its steps, for the group that has taken it
abbrev pub CheckpointsMayBeThere : Type 0
CheckpointsMayBeThere = (machines : ℕ → Machine) (core : CorePicture) (g : Group) → Stands machines core g → IsWrittenDown core.log →
    g.common.ran ≡ length g.common.journal → (clock : Tick) (state : List ℕ) → state ≡ state_at (machines g.common.kind) g.common (length g.common.journal) →
    IsWritable (records.Checkpoint (checkpoint_of core.log clock state)) → IsWritable (records.View core.log.newest) → (how : Tidied) →
    GoesOnFrom machines core (records_when how core.log.records (checkpoint_record (checkpoint_of core.log clock state)) (view_record core.log.newest))
    (record g { common = marked g.common clock.0 })
