-- What a member makes of a state or an update that it is given.
use Rattle.std.specs.Prelude.{◌≡◌, ℕ}
use Rattle.ft_base.specs.Machine.{Machine}
use Rattle.ft_replica.specs.Picture.{Picture as ReplicaPicture}
use Rattle.group_model.specs.Plain.{Common}
use Rattle.group_model.specs.Turns.{Turn}
use Rattle.group_model.specs.declared.events.GroupAnswer.TheVariants as answers
use Rattle.group_stands.specs.Stands.{ReplicaStands}
use Rattle.checkpoint_transfer.specs.declared.giving.Given.{Given}
use Rattle.checkpoint_transfer.specs.declared.giving.Given.TheVariants.{Applied, Ignored, NoMemory}

-- the answer is the turn's, and the replica stands for the turn's host; want of memory is no turn
abbrev pub IsGiven : (ℕ → Machine) → Common → Turn → Given → ReplicaPicture → Type 0
IsGiven machines c turn (Applied at) replica = (turn.answer ≡ answers.Applied at) × ReplicaStands machines c replica turn.host.place
IsGiven machines c turn (Ignored cause) replica = (turn.answer ≡ answers.Ignored cause) × ReplicaStands machines c replica turn.host.place
IsGiven machines c turn NoMemory replica = Unit {0}

-- only what was applied changes a replica
abbrev pub IsLeft : Given → ReplicaPicture → ReplicaPicture → Type 0
IsLeft (Applied at) old new = Unit {0}
IsLeft (Ignored cause) old new = new ≡ old
IsLeft NoMemory old new = new ≡ old
