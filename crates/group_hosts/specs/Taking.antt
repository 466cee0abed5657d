-- What a host that has caught up gives: a checkpoint, and an update.
use Rattle.std.specs.Prelude.{◌≡◌, ℕ, ◌≤◌, ◌⊎◌, Bool, true, length}
use Rattle.ft_base.specs.Machine.{Machine}
use Rattle.ft_base.specs.declared.views.Style.{Style}
use Rattle.message_log.specs.Picture.{Picture as LogPicture}
use Rattle.ft_replica.specs.Picture.{Picture as ReplicaPicture}
use Rattle.group_model.specs.declared.events.GroupAnswer.{GroupAnswer}
use Rattle.group_model.specs.declared.events.GroupAnswer.TheVariants.{NoMemory}
use Rattle.group_model.specs.declared.events.Inner.{Inner}
use Rattle.group_model.specs.declared.events.Inner.TheVariants as inners
use Rattle.group_model.specs.Events.{shows_fault}
use Rattle.group_model.specs.Plain.{Common, Host, start_of, caught_up_to, with_ran}
use Rattle.group_model.specs.Transfers.{taking}
use Rattle.group_model.specs.Turns.{Turn}
use Rattle.group_model.specs.Views.{newest}
use Rattle.group_stands.specs.Stands.{LogStands, ReplicaStands, IsCaughtUp}
use Rattle.group_hosts.specs.Hosts.{HostPicture, HostStands}

-- what is sent of a replica
abbrev pub state_of : ReplicaPicture → Inner
state_of replica = inners.State replica.position replica.state

abbrev pub update_of : Machine → ReplicaPicture → Inner
update_of machine replica = inners.Update replica.base replica.position (machine.delta replica.copied replica.state)

-- a group of this style, and a host of it that has caught up
pub record CanTake (machines : ℕ → Machine) (c : Common) (h : Host) (its_style : Style) (its_log : LogPicture) (its_replica : ReplicaPicture) : Type 0 where
  pub style : its_style ≡ c.style
  pub log : LogStands machines c its_log
  pub replica : ReplicaStands machines c its_replica h.place
  pub caught_up : IsCaughtUp c h.place

-- log, replica and answer are this turn's
pub record Gave (machines : ℕ → Machine) (t : Turn) (answer : GroupAnswer) (its_log : LogPicture) (its_replica : ReplicaPicture) : Type 0 where
  pub log : LogStands machines t.common its_log
  pub replica : ReplicaStands machines t.common its_replica t.host.place
  pub told : t.answer ≡ answer

-- the turn in which the log's write fails or doesn't, or nothing for want of memory
abbrev pub IsGiven : (ℕ → Machine) → Common → Host → (Bool → Turn) → GroupAnswer → LogPicture → ReplicaPicture → ReplicaPicture → Type 0
IsGiven machines c h turn NoMemory log before replica = LogStands machines c log × (replica ≡ before)
IsGiven machines c h turn answer log before replica = Gave machines (turn (shows_fault answer)) answer log replica

-- ---- a host that takes what it sends

-- it knows the newest view and has caught up
pub record IsReady (machines : ℕ → Machine) (c : Common) (h : Host) (its_log : LogPicture) (picture : HostPicture) : Type 0 where
  pub log : LogStands machines (with_ran (length c.journal) c) its_log
  pub host : HostStands machines (with_ran (length c.journal) c) picture (taking c h)
  pub caught_up : IsCaughtUp (with_ran (length c.journal) c) (taking c h).place
  pub first : (start_of c h.place).position ≤ length c.journal

-- a host that knows the newest view
abbrev pub informed : Common → Host → Host
informed c h = record h { known = newest c }

-- it found no memory on its way, at this position
pub record IsUnreadyAt (machines : ℕ → Machine) (c : Common) (h : Host) (its_log : LogPicture) (picture : HostPicture) (n : ℕ) : Type 0 where
  pub log : LogStands machines (with_ran n c) its_log
  pub host : HostStands machines (with_ran n c) picture (caught_up_to c (informed c h) n)
  pub loaded : (caught_up_to c (informed c h) n).place.loaded ≡ true
  pub first : (start_of c h.place).position ≤ n
  pub last : n ≤ length c.journal

-- or before it began
abbrev pub IsUnready : (ℕ → Machine) → Common → Host → LogPicture → HostPicture → Type 0
IsUnready machines c h log host =
    (LogStands machines c log × HostStands machines c host (informed c h)) ⊎ ((n : ℕ) × IsUnreadyAt machines c h log host n)
