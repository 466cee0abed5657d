-- What an event leaves of its host and of its group's log.
use Rattle.std.specs.Prelude.{◌≡◌, ℕ, ◌+◌, ◌≤◌, true, false}
use Rattle.ft_base.specs.Machine.{Machine}
use Rattle.message_log.specs.Picture.{Picture as LogPicture}
use Rattle.group_model.specs.declared.events.Event.{Event}
use Rattle.group_model.specs.declared.events.GroupAnswer.{GroupAnswer}
use Rattle.group_model.specs.declared.events.GroupAnswer.TheVariants.{NoMemory}
use Rattle.group_model.specs.Agreeing.{IsSoundHost}
use Rattle.group_model.specs.Events.{turn_of, host_of, shows_fault}
use Rattle.group_model.specs.Lean.{IsLean}
use Rattle.group_model.specs.Plain.{Group}
use Rattle.group_model.specs.Turns.{Turn}
use Rattle.group_stands.specs.Stands.{LogStands}
use Rattle.group_hosts.specs.Hosts.{HostPicture, HostStands}

-- what a contract sees after a turn: the group's log, its host, and the number of servant calls so far
pub record Seen : Type 0 where
  pub log : LogPicture
  pub host : HostPicture
  pub steps : ℕ

abbrev pub seen : LogPicture → HostPicture → ℕ → Seen
seen log host steps = record { log = log; host = host; steps = steps }

-- log, host, answer and servant calls are this turn's
pub record IsTaken (machines : ℕ → Machine) (t : Turn) (answer : GroupAnswer) (before : ℕ) (now : Seen) : Type 0 where
  pub log : LogStands machines t.common now.log
  pub host : HostStands machines t.common now.host t.host
  pub told : t.answer ≡ answer
  pub calls : now.steps ≡ before + t.calls

-- Memory was wanted: log and host are those of a group that this may leave, which is sound, and the servant was
-- called no more often than by the event's turn; where no request joined, no more often than by that in which the log's
-- write fails.
pub record IsShort (machines : ℕ → Machine) (g : Group) (e : Event) (before : ℕ) (now : Seen) : Type 0 where
  pub left : Group
  pub lean : IsLean (machines g.common.kind) g e left
  pub log : LogStands machines left.common now.log
  pub host : HostStands machines left.common now.host (left.hosts (host_of e))
  pub sound : IsSoundHost left.common (left.hosts (host_of e))
  pub calls : now.steps ≤ before + (turn_of (machines g.common.kind) g e false).calls
  pub unwritten : left.common.journal ≡ g.common.journal → now.steps ≤ before + (turn_of (machines g.common.kind) g e true).calls

-- The event had the plain group's turn, in which the log's write fails where the answer shows it; or memory was
-- wanted.
abbrev pub IsTurn : (ℕ → Machine) → Group → Event → GroupAnswer → ℕ → Seen → Type 0
IsTurn machines g e NoMemory before now = IsShort machines g e before now
IsTurn machines g e answer before now = IsTaken machines (turn_of (machines g.common.kind) g e (shows_fault answer)) answer before now
