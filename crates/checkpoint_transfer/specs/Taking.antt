-- What a member leaves and gives where it takes a state or an update.
use Rattle.std.specs.Prelude.{◌≡◌, ℕ, List, length, replicate, Result, Ok, Err}
use Rattle.ft_base.specs.Machine.{Machine}
use Rattle.message_log.specs.Picture.{Picture as LogPicture}
use Rattle.message_log.specs.declared.answers.LogFault.{LogFault}
use Rattle.ft_replica.specs.Picture.{Picture as ReplicaPicture}
use Rattle.group_model.specs.Plain.{Common, Place, state_at, delta_at}
use Rattle.group_model.specs.Transfers.{marked}
use Rattle.group_stands.specs.Stands.{LogStands, ReplicaStands}

-- a place whose next update leads on from where it is
abbrev pub rebased : Place → Place
rebased place = record place { base = place.position }

-- The checkpoint covers the whole journal, the member's next update leads on from there, and it gives the state
-- after all entries so many times.
pub record IsStateTaken (machines : ℕ → Machine) (c : Common) (place : Place) (clock copies : ℕ) (given : List (List ℕ)) (its_log : LogPicture) (its_replica : ReplicaPicture) : Type 0 where
  pub log : LogStands machines (marked c clock) its_log
  pub replica : ReplicaStands machines (marked c clock) its_replica (rebased place)
  pub states : given ≡ replicate copies (state_at (machines c.kind) c (length c.journal))

-- The member's next update leads on from where it is, and it gives the update up to there so many times.
pub record IsUpdateTaken (machines : ℕ → Machine) (c : Common) (place : Place) (copies : ℕ) (given : List (List ℕ)) (its_replica : ReplicaPicture) : Type 0 where
  pub replica : ReplicaStands machines c its_replica (rebased place)
  pub updates : given ≡ replicate copies (delta_at (machines c.kind) c place.base place.position)

-- whether the checkpoint was written, whatever was given
abbrev pub written : {A : Type 0} → Result A LogFault → Result (Unit {0}) LogFault
written (Ok given) = Ok tt
written (Err fault) = Err fault
