-- How a log and replicas go on standing for a group.
use Rattle.std.specs.Prelude.{◌≡◌, ℕ, ◌+◌, ◌<◌, ◌≤◌, max, Bool, true, List, length, Option, Some, unwrap_or}
use Rattle.std.specs.List.{AllByRecursion}
use Rattle.ft_base.specs.Machine.{Machine, Fits}
use Rattle.ft_base.specs.Journal.{reply_at}
use Rattle.ft_base.specs.Laws.{Stays}
use Rattle.ft_base.specs.Views.{IsView}
use Rattle.ft_base.specs.declared.admissions.Admission.TheVariants.{New}
use Rattle.ft_base.specs.declared.limits.TheConstants.{ARGUMENTS_LIMIT, HOST_LIMIT}
use Rattle.ft_base.specs.declared.numbers.Tick.{Tick}
use Rattle.ft_base.specs.declared.numbers.Version.{Version}
use Rattle.ft_base.specs.declared.requests.Outcome.{Outcome}
use Rattle.ft_base.specs.declared.requests.Request.{Request}
use Rattle.ft_base.specs.declared.views.Style.{Style}
use Rattle.message_log.specs.Admission.{admitted}
use Rattle.message_log.specs.Calls.{fresh, with_entry, with_outcome, checkpointed}
use Rattle.message_log.specs.Picture.{Picture as LogPicture, Reserved, request_at}
use Rattle.message_log.specs.declared.answers.Admit.TheVariants as admits
use Rattle.ft_replica.specs.Picture.{Picture as ReplicaPicture, opened, one_further, settled, rebased, blanked}
use Rattle.group_model.specs.Laws.{Grows}
use Rattle.group_model.specs.Openings.{first_view, opening_common}
use Rattle.group_model.specs.Plain.{Common, Place, loaded_at, nowhere, state_at, with_ran}
use Rattle.group_model.specs.Serving.{joined}
use Rattle.group_model.specs.Transfers.{marked}
use Rattle.group_stands.specs.Stands.{LogStands, ReplicaStands, OpeningStands}

-- ---- the log

-- what is reserved, and what the keeper holds, don't count
abbrev pub LogsGoOnBeside : Type 0
LogsGoOnBeside = (machines : ℕ → Machine) (c : Common) (log : LogPicture) → LogStands machines c log →
    (reserved : Option Reserved) (records : List (List ℕ)) (plan : Option (List Bool)) (faults : ℕ) →
    LogStands machines c (record log { reserved = reserved; records = records; plan = plan; faults = faults })

-- a request that the log admits as new joins, not run yet
abbrev pub RequestsJoin : Type 0
RequestsJoin = (machines : ℕ → Machine) (c : Common) (log : LogPicture) → LogStands machines c log →
    (version : Version) (clock : Tick) (request : Request) → admitted log version.0 clock.0 request ≡ admits.Admission New →
    Fits (machines c.kind) request → length request.args ≤ ARGUMENTS_LIMIT →
    LogStands machines (joined c (max clock.0 c.time) request) (with_entry log version clock request)

-- a checkpoint covers the whole journal, which has been run
abbrev pub CheckpointsStand : Type 0
CheckpointsStand = (machines : ℕ → Machine) (c : Common) (log : LogPicture) → LogStands machines c log → c.ran ≡ length c.journal →
    (clock : Tick) → LogStands machines (marked c clock.0) (checkpointed log clock (state_at (machines c.kind) c (length c.journal)))

-- a fresh log stands for a group at its opening
abbrev pub FreshLogsStand : Type 0
FreshLogsStand = (machines : ℕ → Machine) (id : ℕ) (style : Style) (kind : ℕ) (opening members : List ℕ) (plan : Option (List Bool)) (faults : ℕ) →
    (machines kind).is_state opening ≡ true → IsView style (first_view style members) → AllByRecursion (λ host. host < HOST_LIMIT) members →
    LogStands machines (opening_common id style kind opening members) (fresh (first_view style members) plan faults)

-- ---- an entry is run

-- a place one entry further on
abbrev pub moved : Place → Place
moved place = record place { position = place.position + 1 }

-- The entry at a replica's position was run, and its outcome is set as its reply: it is the entry's one reply.
pub record HasRun (machines : ℕ → Machine) (c : Common) (place : Place) (outcome : Outcome) (its_log : LogPicture) (its_replica : ReplicaPicture) : Type 0 where
  pub log : LogStands machines (with_ran (place.position + 1) c) its_log
  pub replica : ReplicaStands machines (with_ran (place.position + 1) c) its_replica (moved place)
  pub reply : outcome ≡ reply_at (machines c.kind) c.opening c.journal place.position

abbrev pub EntriesRun : Type 0
EntriesRun = (machines : ℕ → Machine) (c : Common) (place : Place) (log : LogPicture) (replica : ReplicaPicture) →
    LogStands machines c log → ReplicaStands machines c replica place → place.loaded ≡ true →
    (request : Request) (outcome : Outcome) → request_at log replica.position ≡ Some request →
    outcome ≡ ((machines replica.kind).step replica.state request).1 →
    HasRun machines c place outcome (with_outcome log replica.position outcome) (one_further (machines replica.kind) request replica)

-- ---- replicas

-- a host that takes no part goes on standing while the group grows
abbrev pub ReplicasGoOn : Type 0
ReplicasGoOn = (machines : ℕ → Machine) (c later : Common) (replica : ReplicaPicture) (place : Place) →
    ReplicaStands machines c replica place → c.ran ≤ length c.journal → Grows c later → ReplicaStands machines later replica place

-- so it does where a request joins
abbrev pub ReplicasGoOnJoined : Type 0
ReplicasGoOnJoined = (machines : ℕ → Machine) (c : Common) (replica : ReplicaPicture) (place : Place) →
    ReplicaStands machines c replica place → c.ran ≤ length c.journal → (now : ℕ) (request : Request) →
    ReplicaStands machines (joined c now request) replica place

-- and where entries are run elsewhere
abbrev pub ReplicasGoOnRan : Type 0
ReplicasGoOnRan = (machines : ℕ → Machine) (c : Common) (replica : ReplicaPicture) (place : Place) →
    ReplicaStands machines c replica place → (n : ℕ) → ReplicaStands machines (with_ran n c) replica place

-- a blank replica stands for a host that has none, of every group of its kind
abbrev pub BlanksStand : Type 0
BlanksStand = (machines : ℕ → Machine) (c : Common) (replica : ReplicaPicture) → replica.kind ≡ c.kind →
    ReplicaStands machines c (blanked replica) nowhere

-- one with the opening state is at the beginning
abbrev pub OpenedReplicasStand : Type 0
OpenedReplicasStand = (machines : ℕ → Machine) (c : Common) (kind : ℕ) (opening : List ℕ) → OpeningStands c kind opening →
    ReplicaStands machines c (opened kind opening) (loaded_at 0)

-- A replica that loads the checkpoint, or the opening state where none was taken, is at the mark; and these
-- bytes are a state.
abbrev pub CheckpointsLoad : Type 0
CheckpointsLoad = (machines : ℕ → Machine) (c : Common) (log : LogPicture) → LogStands machines c log →
    (kind : ℕ) (opening : List ℕ) → OpeningStands c kind opening → (replica : ReplicaPicture) → replica.kind ≡ c.kind →
    ReplicaStands machines c (settled log.mark (unwrap_or log.state opening) replica) (loaded_at c.mark)

abbrev pub CheckpointsAreStates : Type 0
CheckpointsAreStates = (machines : ℕ → Machine) → ((k : ℕ) → Stays (machines k)) → (c : Common) (log : LogPicture) → LogStands machines c log →
    (kind : ℕ) (opening : List ℕ) → OpeningStands c kind opening → (machines c.kind).is_state (unwrap_or log.state opening) ≡ true

-- one that took a checkpoint has its base where it is
abbrev pub ReplicasRebase : Type 0
ReplicasRebase = (machines : ℕ → Machine) (c : Common) (replica : ReplicaPicture) (place : Place) →
    ReplicaStands machines c replica place → (clock : ℕ) →
    ReplicaStands machines (marked c clock) (rebased replica) (record place { base = place.position })
