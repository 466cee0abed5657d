-- What a log and a replica that stand for a group tell of it.
use Rattle.std.specs.Prelude.{◌≡◌, ℕ, ◌<◌, ◌≤◌, max, true, length, slice_get, Some}
use Rattle.ft_base.specs.Machine.{Machine, Fits, IsGiven}
use Rattle.ft_base.specs.Journal.{Entry, reply_at}
use Rattle.ft_base.specs.Laws.{Stays, Gives}
use Rattle.ft_base.specs.declared.limits.TheConstants.{ARGUMENTS_LIMIT}
use Rattle.ft_base.specs.declared.requests.Request.{Request}
use Rattle.reply_table.specs.Entries.{reply_of}
use Rattle.message_log.specs.Admission.{admitted}
use Rattle.message_log.specs.Picture.{Picture as LogPicture, length_of, request_at}
use Rattle.message_log.specs.declared.answers.Admit.TheVariants as admits
use Rattle.ft_replica.specs.Picture.{Picture as ReplicaPicture}
use Rattle.group_model.specs.Plain.{Common, Place, state_at}
use Rattle.group_model.specs.Views.{newest, newest_view}
use Rattle.ft_base.specs.Admissions.{admission}
use Rattle.ft_base.specs.declared.admissions.Admission.TheVariants as admissions
use Rattle.group_stands.specs.Stands.{LogStands, ReplicaStands, IsCaughtUp, reply_once_run}

-- ---- lengths, views, entries

-- its length is the journal's, and its newest view the group's
pub record Tells (c : Common) (log : LogPicture) : Type 0 where
  pub end : length_of log ≡ length c.journal
  pub view : log.newest ≡ newest_view c
  pub version : log.newest.version.0 ≡ newest c

abbrev pub LogsTell : Type 0
LogsTell = (machines : ℕ → Machine) (c : Common) (log : LogPicture) → LogStands machines c log → Tells c log

-- the log has the entry of this position still, and its request may be run
pub record IsLent (m : Machine) (c : Common) (i : ℕ) (request : Request) : Type 0 where
  pub entry : Entry
  pub there : slice_get c.journal i ≡ Some entry
  pub same : entry.request ≡ request
  pub marked : c.mark ≤ i
  pub inside : i < length c.journal
  pub fits : Fits m request
  pub short : length request.args ≤ ARGUMENTS_LIMIT

abbrev pub LogsLend : Type 0
LogsLend = (machines : ℕ → Machine) (c : Common) (log : LogPicture) → LogStands machines c log →
    (i : ℕ) (request : Request) → request_at log i ≡ Some request → IsLent (machines c.kind) c i request

-- it has each entry from the mark on
abbrev pub LogsHaveEntries : Type 0
LogsHaveEntries = (machines : ℕ → Machine) (c : Common) (log : LogPicture) → LogStands machines c log →
    (i : ℕ) → c.mark ≤ i → i < length c.journal → (request : Request) × (request_at log i ≡ Some request)

-- ---- admission

-- to a writer that knows the newest version the log says what the whole journal says
abbrev pub LogsAdmit : Type 0
LogsAdmit = (machines : ℕ → Machine) (c : Common) (log : LogPicture) → LogStands machines c log →
    (version clock : ℕ) (request : Request) → version ≡ newest c →
    admitted log version clock request ≡ admits.Admission (admission c.journal (max clock c.time) request)

-- ---- replies

-- A repeated entry is in the journal and retained, with its reply once it was run.
abbrev pub RepeatsAreAnswered : Type 0
RepeatsAreAnswered = (machines : ℕ → Machine) (c : Common) (log : LogPicture) → LogStands machines c log →
    (clock i : ℕ) (request : Request) → admission c.journal (max clock c.time) request ≡ admissions.Same i →
    (i < length c.journal) × (reply_of log.table i ≡ reply_once_run (machines c.kind) c.opening c.journal c.ran i)

-- where some host has caught up, all entries were run
abbrev pub CaughtUpHasRun : Type 0
CaughtUpHasRun = (machines : ℕ → Machine) (c : Common) (log : LogPicture) (replica : ReplicaPicture) (place : Place) →
    LogStands machines c log → ReplicaStands machines c replica place → IsCaughtUp c place → c.ran ≡ length c.journal

-- so it has the reply that a repeat asks for
abbrev pub CaughtUpRepeats : Type 0
CaughtUpRepeats = (machines : ℕ → Machine) (c : Common) (log : LogPicture) (replica : ReplicaPicture) (place : Place) →
    LogStands machines c log → ReplicaStands machines c replica place → IsCaughtUp c place →
    (clock i : ℕ) (request : Request) → admission c.journal (max clock c.time) request ≡ admissions.Same i →
    reply_of log.table i ≡ Some (reply_at (machines c.kind) c.opening c.journal i)

-- ---- states and outcomes

-- of servants that keep their states, each state that the journal leads to is a state
abbrev pub StatesAreStates : Type 0
StatesAreStates = (machines : ℕ → Machine) → ((k : ℕ) → Stays (machines k)) → (c : Common) (log : LogPicture) → LogStands machines c log →
    (n : ℕ) → (machines c.kind).is_state (state_at (machines c.kind) c n) ≡ true

-- and each reply is in the form that its operation gives
abbrev pub RepliesAreGiven : Type 0
RepliesAreGiven = (machines : ℕ → Machine) → ((k : ℕ) → Stays (machines k)) → ((k : ℕ) → Gives (machines k)) →
    (c : Common) (log : LogPicture) → LogStands machines c log →
    (i : ℕ) (entry : Entry) → slice_get c.journal i ≡ Some entry →
    IsGiven (machines c.kind) entry.request (reply_at (machines c.kind) c.opening c.journal i)
