-- A request that no row before the journal refuses: its host catches up, and then the journal is asked.
use Rattle.std.specs.Prelude.{◌≡◌, ℕ, ◌+◌, ◌≤◌, ◌⊎◌, max, true, false, List, length, Option, Some, None}
use Rattle.ft_base.specs.Machine.{Machine, Fits}
use Rattle.ft_base.specs.declared.decisions.Stop.{Stop}
use Rattle.ft_base.specs.declared.limits.TheConstants.{ARGUMENTS_LIMIT}
use Rattle.ft_base.specs.declared.requests.Request.{Request}
use Rattle.ft_base.specs.declared.views.Style.{Style}
use Rattle.sys_faults.specs.declared.answers.Answer.{Answer}
use Rattle.message_log.specs.Picture.{Picture as LogPicture}
use Rattle.ft_replica.specs.Picture.{Picture as ReplicaPicture}
use Rattle.group_model.specs.declared.events.GroupAnswer.{GroupAnswer}
use Rattle.ft_base.specs.Admissions.{admission}
use Rattle.ft_base.specs.declared.admissions.Admission.TheVariants.{New}
use Rattle.group_model.specs.declared.events.GroupAnswer.TheVariants.{NoMemory}
use Rattle.group_model.specs.Events.{is_log_fault}
use Rattle.group_model.specs.Lean.{IsToRun}
use Rattle.group_model.specs.Plain.{Common, Host, blank, start_of, caught_up_to, with_ran}
use Rattle.group_model.specs.Serving.{joined, calls_behind, served_caught_up}
use Rattle.group_model.specs.Turns.{Turn}
use Rattle.group_stands.specs.Holding.{HeldOrder, HoldStands}
use Rattle.group_stands.specs.Stands.{LogStands, ReplicaStands, OpeningStands}
use Rattle.passive_dispatch.specs.Served.{calls_by}
use Rattle.passive_dispatch.specs.declared.serving.Replied.{Replied}
use Rattle.active_sequencer.specs.Sequences.{replied_as}
use Rattle.group_hosts.specs.Hosts.{HostPicture, forgotten}
use Rattle.group_hosts.specs.Keeping.{WroteBy, WroteShort}
use Rattle.group_hosts.specs.declared.entering.Entered.{Entered}
use Rattle.group_hosts.specs.declared.entering.Entered.TheVariants.{Done, Short, Unrun}

-- what a host's part in a request is seen by: its group's log, its replica, the orders that it holds back, and
-- the number of servant calls so far
pub record Parts : Type 0 where
  pub log : LogPicture
  pub replica : ReplicaPicture
  pub held : List HeldOrder
  pub steps : ℕ

abbrev pub parts : LogPicture → ReplicaPicture → List HeldOrder → ℕ → Parts
parts log replica held steps = record { log = log; replica = replica; held = held; steps = steps }

-- they stand for a group's common part and for one of its hosts
pub record PartsStand (machines : ℕ → Machine) (c : Common) (h : Host) (now : Parts) : Type 0 where
  pub log : LogStands machines c now.log
  pub replica : ReplicaStands machines c now.replica h.place
  pub held : HoldStands c.journal c.ran h.place.position h.holdback now.held

-- so do they, and the group was made with such a servant
pub record CanCatchUp (machines : ℕ → Machine) (c : Common) (h : Host) (kind : ℕ) (state : List ℕ) (now : Parts) : Type 0 where
  pub stand : PartsStand machines c h now
  pub opening : OpeningStands c kind state

-- ---- catching up

-- the host has run on to a position, from where its catch-up began
pub record HasComeTo (machines : ℕ → Machine) (c : Common) (h : Host) (now : Parts) (n : ℕ) : Type 0 where
  pub stand : PartsStand machines (with_ran n c) (caught_up_to c h n) now
  pub loaded : (caught_up_to c h n).place.loaded ≡ true
  pub first : (start_of c h.place).position ≤ n
  pub last : n ≤ length c.journal

-- it found no memory: it didn't begin, or stopped on its way
pub record HasStoppedAt (machines : ℕ → Machine) (c : Common) (h : Host) (before now : Parts) (n : ℕ) : Type 0 where
  pub come : HasComeTo machines c h now n
  pub calls : now.steps ≤ before.steps + calls_behind c h

abbrev pub HasStopped : (ℕ → Machine) → Common → Host → Parts → Parts → Type 0
HasStopped machines c h before now = (now ≡ before) ⊎ ((n : ℕ) × HasStoppedAt machines c h before now n)

-- ---- the whole request

-- who may be asked: a host of a group of this style, for a request that may be run
pub record CanEnter (machines : ℕ → Machine) (c : Common) (h : Host) (its_style : Style) (kind : ℕ) (state : List ℕ) (request : Request) (now : Parts) : Type 0 where
  pub style : its_style ≡ c.style
  pub catch_up : CanCatchUp machines c h kind state now
  pub fits : Fits (machines c.kind) request
  pub short : length request.args ≤ ARGUMENTS_LIMIT

-- the parts, the decision, the answer, what is sent and the servant calls are this turn's
pub record IsAnswered (machines : ℕ → Machine) (t : Turn) (replied : Replied) (before : ℕ) (now : Parts) : Type 0 where
  pub stand : PartsStand machines t.common t.host now
  pub told : t.answer ≡ replied_as replied
  pub calls : now.steps ≡ before + t.calls

-- the request was new and joined, its host was to run it, and no memory was found for that, or for the copy of its outcome
pub record HasJoinedUnrun (machines : ℕ → Machine) (c : Common) (h : Host) (clock : ℕ) (request : Request) (stop : Stop) (before : ℕ) (now : Parts) : Type 0 where
  pub new : admission c.journal (max clock c.time) request ≡ New
  pub to_run : IsToRun stop
  pub stand : PartsStand machines (record (joined c (max clock c.time) request) { ran = length c.journal }) (blank true) now
  pub calls : now.steps ≤ before + (calls_behind c h + calls_by stop)

abbrev pub IsEntered : (ℕ → Machine) → Common → Host → ℕ → ℕ → Request → Stop → Entered → Parts → Parts → Type 0
IsEntered machines c h host clock request stop (Done replied) before now =
    IsAnswered machines (served_caught_up (machines c.kind) c h host clock request stop (is_log_fault replied.decision)) replied before.steps now
IsEntered machines c h host clock request stop Short before now = HasStopped machines c h before now
IsEntered machines c h host clock request stop Unrun before now = HasJoinedUnrun machines c h clock request stop before.steps now

abbrev pub WroteEntered : Entered → LogPicture → LogPicture → Type 0
WroteEntered (Done replied) old new = WroteBy replied.decision old new
WroteEntered Short old new = WroteShort old new
WroteEntered Unrun old new = WroteShort old new

-- ---- the host behind it

-- a host that stopped forgets everything, and is down; one that couldn't run the request is blank, and up
abbrev pub unless_stopped : Option Answer → HostPicture → HostPicture
unless_stopped (Some answer) host = host
unless_stopped None host = forgotten false host

abbrev pub settled : Entered → HostPicture → HostPicture
settled (Done replied) host = unless_stopped replied.answer host
settled Short host = host
settled Unrun host = forgotten true host

abbrev pub entered_told : Entered → GroupAnswer
entered_told (Done replied) = replied_as replied
entered_told Short = NoMemory
entered_told Unrun = NoMemory
