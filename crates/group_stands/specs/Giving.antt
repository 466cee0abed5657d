-- What one host gives another, a state or an update, and how replicas go on standing with it. (Chapter 23,
-- "Checkpointable" and "Updateable".)
use Rattle.std.specs.Prelude.{◌≡◌, ℕ, ◌≤◌, true, List, length, Some}
use Rattle.ft_base.specs.Machine.{Machine}
use Rattle.ft_base.specs.Journal.{Entry, after, AllFit}
use Rattle.ft_base.specs.Laws.{Stays}
use Rattle.ft_replica.specs.Picture.{Picture as ReplicaPicture, settled, rebased}
use Rattle.group_model.specs.Agreeing.{IsSoundCommon}
use Rattle.group_model.specs.Laws.{Grows}
use Rattle.group_model.specs.Plain.{Common, Place, loaded_at, state_at, delta_at}
use Rattle.group_stands.specs.Stands.{ReplicaStands}

-- a kind of servant of which the update between a state and a later one leads from the one to the other
abbrev pub Updates : Machine → Type 0
Updates m = (s : List ℕ) (es : List Entry) → m.is_state s ≡ true → AllFit m es → m.applied s (m.delta s (after m s es)) ≡ Some (after m s es)

-- the bytes are the state after the first n entries, which have run
pub record IsStateAt (m : Machine) (c : Common) (n : ℕ) (bytes : List ℕ) : Type 0 where
  pub ran : n ≤ c.ran
  pub is : bytes ≡ state_at m c n

-- the bytes are the update between the states after the first n and the first k entries, which have run
pub record IsUpdateBetween (m : Machine) (c : Common) (n k : ℕ) (bytes : List ℕ) : Type 0 where
  pub order : n ≤ k
  pub ran : k ≤ c.ran
  pub is : bytes ≡ delta_at m c n k

-- ---- what a replica gives

-- its state is that at its position
abbrev pub ReplicasGiveStates : Type 0
ReplicasGiveStates = (machines : ℕ → Machine) (c : Common) (replica : ReplicaPicture) (place : Place) →
    ReplicaStands machines c replica place → place.loaded ≡ true → IsStateAt (machines c.kind) c place.position replica.state

-- the update from its copy to its state is that from its base to its position
abbrev pub ReplicasGiveUpdates : Type 0
ReplicasGiveUpdates = (machines : ℕ → Machine) (c : Common) (replica : ReplicaPicture) (place : Place) →
    ReplicaStands machines c replica place → place.loaded ≡ true →
    IsUpdateBetween (machines c.kind) c place.base place.position ((machines replica.kind).delta replica.copied replica.state)

-- behind it, its base is where it is
abbrev pub ReplicasLeadOn : Type 0
ReplicasLeadOn = (machines : ℕ → Machine) (c : Common) (replica : ReplicaPicture) (place : Place) →
    ReplicaStands machines c replica place → ReplicaStands machines c (rebased replica) (record place { base = place.position })

-- ---- on its way

-- what was given stays what it is while the group grows
abbrev pub GivenStatesStay : Type 0
GivenStatesStay = (machines : ℕ → Machine) (c later : Common) (n : ℕ) (bytes : List ℕ) → c.ran ≤ length c.journal → Grows c later →
    IsStateAt (machines c.kind) c n bytes → IsStateAt (machines later.kind) later n bytes

abbrev pub GivenUpdatesStay : Type 0
GivenUpdatesStay = (machines : ℕ → Machine) (c later : Common) (n k : ℕ) (bytes : List ℕ) → c.ran ≤ length c.journal → Grows c later →
    IsUpdateBetween (machines c.kind) c n k bytes → IsUpdateBetween (machines later.kind) later n k bytes

-- ---- what a replica is given

-- these bytes are a state
abbrev pub GivenStatesAreStates : Type 0
GivenStatesAreStates = (machines : ℕ → Machine) → ((k : ℕ) → Stays (machines k)) → (c : Common) → IsSoundCommon (machines c.kind) c →
    (n : ℕ) (bytes : List ℕ) → IsStateAt (machines c.kind) c n bytes → (machines c.kind).is_state bytes ≡ true

-- a replica of the group's kind that loads them is at their position
abbrev pub GivenStatesLoad : Type 0
GivenStatesLoad = (machines : ℕ → Machine) (c : Common) (replica : ReplicaPicture) → replica.kind ≡ c.kind →
    (n : ℕ) (bytes : List ℕ) → IsStateAt (machines c.kind) c n bytes → ReplicaStands machines c (settled n bytes replica) (loaded_at n)

-- an update leads a replica that is where it begins to the state where it ends
abbrev pub GivenUpdatesLead : Type 0
GivenUpdatesLead = (machines : ℕ → Machine) → ((k : ℕ) → Stays (machines k)) → ((k : ℕ) → Updates (machines k)) →
    (c : Common) (replica : ReplicaPicture) (place : Place) → IsSoundCommon (machines c.kind) c → ReplicaStands machines c replica place → place.loaded ≡ true →
    (n k : ℕ) (update : List ℕ) → replica.position ≡ n → IsUpdateBetween (machines c.kind) c n k update →
    (machines replica.kind).applied replica.state update ≡ Some (state_at (machines c.kind) c k)
