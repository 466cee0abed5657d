-- What a log's calls make of it.
use Rattle.std.specs.Prelude.{◌≡◌, ℕ, ◌<◌, ◌≤◌, max, nat_lt, if◌then◌else◌, Bool, true, false, List, [], ◌∷◌, ◌++◌, Option, Some, None, Result, Ok, Err}
use Rattle.ft_base.specs.declared.limits.TheConstants.{VIEW_LIMIT, JOURNAL_LIMIT}
use Rattle.ft_base.specs.declared.numbers.Tick.{Tick}
use Rattle.ft_base.specs.declared.numbers.Version.{Version}
use Rattle.ft_base.specs.declared.requests.Key.{Key}
use Rattle.ft_base.specs.declared.requests.Outcome.{Outcome}
use Rattle.ft_base.specs.declared.requests.Request.{Request}
use Rattle.ft_base.specs.declared.views.View.{View}
use Rattle.ft_outside.specs.Outside.{next_count}
use Rattle.ft_outside.specs.Keeping.{plan_after, IsForetold}
use Rattle.reply_table.specs.Entries.{unanswered, joined, unexpired, with_reply}
use Rattle.log_records.specs.Records.{entry_record, view_record, checkpoint_record}
use Rattle.log_records.specs.Writable.{IsWritable}
use Rattle.log_records.specs.declared.records.Record.TheVariants as records
use Rattle.log_records.specs.declared.records.Accepted.{Accepted}
use Rattle.log_records.specs.declared.records.Checkpoint.{Checkpoint}
use Rattle.message_log.specs.Picture.{Picture, KeeperPicture, Reserved, HasRoom, keeper_of, length_of}
use Rattle.message_log.specs.declared.answers.Appended.{Appended}
use Rattle.message_log.specs.declared.answers.Appended.TheVariants.{At, Failed}
use Rattle.message_log.specs.declared.answers.LogFault.{LogFault}
use Rattle.message_log.specs.declared.answers.LogFault.TheVariants as log_faults
use Rattle.message_log.specs.declared.tidying.Tidied.{Tidied}
use Rattle.message_log.specs.declared.tidying.Tidied.TheVariants.{Cut, Uncut, Unwritten}

-- ---- what was reserved

-- with no record nothing is reserved
abbrev pub reserved_of : Option (List ℕ) → Option Request → Option Reserved
reserved_of None retained = None
reserved_of (Some entry) retained = Some (record { entry = entry; retained = retained })

-- where memory was taken, there is room
abbrev pub IsReady : Option (List ℕ) → Option Request → ℕ → ℕ → ℕ → Bool → Type 0
IsReady None retained spare entries entries_room table_room = Unit {0}
IsReady (Some entry) retained spare entries entries_room table_room = HasRoom retained spare entries entries_room table_room

-- ---- a writing call leaves of the keeper

-- these records, this plan and this count of faults; and no memory is taken any more
abbrev pub kept : Picture → List (List ℕ) → Option (List Bool) → ℕ → Picture
kept log records plan faults = record log { reserved = None; records = records; plan = plan; faults = faults }

-- ---- a fresh log

abbrev pub fresh : View → Option (List Bool) → ℕ → Picture
fresh first plan faults = record {
  newest = first;
  earlier = [];
  mark = 0;
  entries = [];
  time = 0;
  state = None;
  table = [];
  reserved = None;
  records = view_record first ∷ [];
  plan = plan;
  faults = faults;
}

-- the first view is written, or the keeper is as it was but for its plan and its count of faults
abbrev pub IsStarted : View → KeeperPicture → KeeperPicture → Result (Unit {0}) LogFault → Type 0
IsStarted v old new (Ok done) =
    IsForetold old.plan false × (new.records ≡ old.records ++ view_record v ∷ []) × (new.plan ≡ plan_after old.plan) × (new.faults ≡ old.faults)
IsStarted v old new (Err log_faults.Failed) =
    IsForetold old.plan true × (new.records ≡ old.records) × (new.plan ≡ plan_after old.plan) × (new.faults ≡ next_count old.faults)
IsStarted v old new (Err log_faults.ViewsFull) = ⊥
IsStarted v old new (Err log_faults.NoMemory) =
    (new.records ≡ old.records) × (new.plan ≡ old.plan) × (new.faults ≡ old.faults)

-- ---- a request joins

abbrev pub accepted_by : Picture → Version → Tick → Request → Accepted
accepted_by log version clock request =
    record { position = length_of log; version = version; at = record { 0 = max clock.0 log.time }; request = request }

-- a view can have the version, and where the request is accepted, its record can be read again
abbrev pub IsWritableIfNew : Picture → Version → Tick → Request → Type 0
IsWritableIfNew log version clock request =
    (version.0 ≤ VIEW_LIMIT)
    × (length_of log < JOURNAL_LIMIT → 0 < version.0 → IsWritable (records.Entry (accepted_by log version clock request)))

-- a request without a key isn't retained
abbrev pub retained_of : Request → Option Key → Option Request
retained_of request None = None
retained_of request (Some key) = Some request

-- what one entry takes: its record, and the request where it is to be retained
abbrev pub reserved_for : Picture → Version → Tick → Request → Reserved
reserved_for log version clock request =
    record { entry = entry_record (accepted_by log version clock request); retained = retained_of request request.key }

abbrev pub with_entry : Picture → Version → Tick → Request → Picture
with_entry log version clock request =
    let at = max clock.0 log.time in
    record log {
      entries = log.entries ++ record { at = at; request = request } ∷ [];
      time = at;
      table = joined log.table (unanswered (length_of log) version (record { 0 = at }) request) request.key;
    }

-- At names the position, which is the old length
abbrev pub IsAppended : Picture → Version → Tick → Request → Appended → Picture → Type 0
IsAppended old version clock request (At i) new =
    (i ≡ length_of old) × IsForetold old.plan false
    × (new ≡ kept (with_entry old version clock request) (old.records ++ entry_record (accepted_by old version clock request) ∷ []) (plan_after old.plan) old.faults)
IsAppended old version clock request Failed new =
    IsForetold old.plan true × (new ≡ kept old old.records (plan_after old.plan) (next_count old.faults))

-- its first reply; below the mark all stay as the checkpoint wrote them
abbrev pub with_outcome : Picture → ℕ → Outcome → Picture
with_outcome log position outcome = record log { table = if nat_lt position log.mark then log.table else with_reply log.table position outcome }

-- ---- the next view

abbrev pub with_view : Picture → View → Picture
with_view log v = record log { newest = v; earlier = log.earlier ++ log.newest ∷ [] }

abbrev pub IsViewed : Picture → View → Result (Unit {0}) LogFault → Picture → Type 0
IsViewed old v (Ok done) new =
    (old.newest.version.0 < VIEW_LIMIT) × IsForetold old.plan false × (new ≡ kept (with_view old v) (old.records ++ view_record v ∷ []) (plan_after old.plan) old.faults)
IsViewed old v (Err log_faults.Failed) new =
    (old.newest.version.0 < VIEW_LIMIT) × IsForetold old.plan true × (new ≡ kept old old.records (plan_after old.plan) (next_count old.faults))
IsViewed old v (Err log_faults.ViewsFull) new = (old.newest.version.0 ≡ VIEW_LIMIT) × (new ≡ old)
IsViewed old v (Err log_faults.NoMemory) new = (old.newest.version.0 < VIEW_LIMIT) × (new ≡ old)

-- ---- a checkpoint

abbrev pub checkpoint_of : Picture → Tick → List ℕ → Checkpoint
checkpoint_of log clock state =
    let time = max clock.0 log.time in
    record { mark = length_of log; time = record { 0 = time }; state = state; retained = unexpired time log.table }

-- the entries before it and the replies that have expired are dropped
abbrev pub checkpointed : Picture → Tick → List ℕ → Picture
checkpointed log clock state =
    let time = max clock.0 log.time in
    record log { mark = length_of log; entries = []; time = time; state = Some state; table = unexpired time log.table }

-- After the checkpoint the newest view is written again, and then all records before the checkpoint are
-- cut. Where the view can't be written, or the cut fails, the checkpoint counts all the same.
abbrev pub IsTidied : Tidied → KeeperPicture → List ℕ → List ℕ → KeeperPicture → Type 0
IsTidied Cut old written viewed new =
    IsForetold old.plan false × IsForetold (plan_after old.plan) false
    × (new.records ≡ written ∷ viewed ∷ []) × (new.plan ≡ plan_after (plan_after old.plan)) × (new.faults ≡ old.faults)
IsTidied Uncut old written viewed new =
    IsForetold old.plan false × IsForetold (plan_after old.plan) true
    × (new.records ≡ old.records ++ written ∷ viewed ∷ []) × (new.plan ≡ plan_after (plan_after old.plan)) × (new.faults ≡ next_count old.faults)
IsTidied Unwritten old written viewed new =
    IsForetold old.plan true
    × (new.records ≡ old.records ++ written ∷ []) × (new.plan ≡ plan_after old.plan) × (new.faults ≡ next_count old.faults)

-- the checkpoint's own write decides
abbrev pub IsTidiedOrFailed : Option Tidied → KeeperPicture → List ℕ → List ℕ → KeeperPicture → Type 0
IsTidiedOrFailed None old written viewed new =
    IsForetold old.plan true × (new.records ≡ old.records) × (new.plan ≡ plan_after old.plan) × (new.faults ≡ next_count old.faults)
IsTidiedOrFailed (Some how) old written viewed new =
    IsForetold old.plan false × IsTidied how (record old { plan = plan_after old.plan }) written viewed new

abbrev pub IsCheckpointed : Picture → Tick → List ℕ → Result (Unit {0}) LogFault → Picture → Type 0
IsCheckpointed old clock state (Ok done) new =
    IsForetold old.plan false
    × ((how : Tidied) × IsTidied how (record (keeper_of old) { plan = plan_after old.plan }) (checkpoint_record (checkpoint_of old clock state)) (view_record old.newest) (keeper_of new))
    × (new ≡ kept (checkpointed old clock state) new.records new.plan new.faults)
IsCheckpointed old clock state (Err log_faults.Failed) new =
    IsForetold old.plan true × (new ≡ kept old old.records (plan_after old.plan) (next_count old.faults))
IsCheckpointed old clock state (Err log_faults.ViewsFull) new = ⊥
IsCheckpointed old clock state (Err log_faults.NoMemory) new = new ≡ old
