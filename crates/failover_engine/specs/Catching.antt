-- How far a host's log and replica came with its catch-up.
use Rattle.std.specs.Prelude.{◌≡◌, ℕ, ◌+◌, ◌-◌, ◌<◌, ◌≤◌, true, length}
use Rattle.ft_base.specs.Machine.{Machine}
use Rattle.message_log.specs.Picture.{Picture as LogPicture}
use Rattle.ft_replica.specs.Picture.{Picture as ReplicaPicture}
use Rattle.group_model.specs.Plain.{Common, Host, Place, start_of, caught_up_to, with_ran}
use Rattle.group_stands.specs.Stands.{LogStands, ReplicaStands}

-- A replica at a place has run the entries from there to a position, and the log has their replies.
pub record IsAt (machines : ℕ → Machine) (c : Common) (place : Place) (log : LogPicture) (replica : ReplicaPicture) (n : ℕ) : Type 0 where
  pub log_stands : LogStands machines (with_ran n c) log
  pub replica_stands : ReplicaStands machines (with_ran n c) replica (record place { position = n })
  pub first : place.position ≤ n
  pub last : n ≤ length c.journal

-- A host has run the entries from the start of its catch-up to a position: log and replica stand for the plain
-- group in which it has.
pub record HasRunTo (machines : ℕ → Machine) (c : Common) (h : Host) (log : LogPicture) (replica : ReplicaPicture) (n : ℕ) : Type 0 where
  pub log_stands : LogStands machines (with_ran n c) log
  pub replica_stands : ReplicaStands machines (with_ran n c) replica (caught_up_to c h n).place
  pub loaded : (caught_up_to c h n).place.loaded ≡ true
  pub first : (start_of c h.place).position ≤ n
  pub last : n ≤ length c.journal

-- It found no memory for the next entry, and so it made one call more.
pub record HasStopped (machines : ℕ → Machine) (c : Common) (h : Host) (log : LogPicture) (replica : ReplicaPicture) (before now : ℕ) : Type 0 where
  pub position : ℕ
  pub ran : HasRunTo machines c h log replica position
  pub before_end : position < length c.journal
  pub calls : now ≡ before + (position - (start_of c h.place).position) + 1
