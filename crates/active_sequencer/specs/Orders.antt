-- What an order leaves at a host.
use Rattle.std.specs.Prelude.{◌≡◌, ℕ, ◌+◌, ◌-◌, ◌<◌, ◌≤◌, ◌⊎◌, Bool, true, false, if◌then◌else◌, nat_lt, List, [], ◌∷◌}
use Rattle.ft_base.specs.Machine.{Machine}
use Rattle.ft_base.specs.declared.decisions.Ignored.{Ignored as Cause}
use Rattle.ft_base.specs.declared.decisions.Ignored.TheVariants as causes
use Rattle.ft_base.specs.declared.requests.Request.{Request}
use Rattle.ft_replica.specs.Picture.{Picture as ReplicaPicture}
use Rattle.group_model.specs.declared.events.GroupAnswer.{GroupAnswer}
use Rattle.group_model.specs.declared.events.GroupAnswer.TheVariants as answers
use Rattle.group_model.specs.Agreeing.{IsSoundCommon, IsOrdered as IsOrderOf}
use Rattle.group_model.specs.Plain.{Common, Host, Place, from, reach, with_number}
use Rattle.group_model.specs.Transfers.{on_order}
use Rattle.group_model.specs.Turns.{Turn}
use Rattle.group_stands.specs.Holding.{HeldOrder, HoldStands}
use Rattle.group_stands.specs.Stands.{ReplicaStands}
use Rattle.active_sequencer.specs.declared.ordering.Ordered.{Ordered}
use Rattle.active_sequencer.specs.declared.ordering.Ordered.TheVariants.{Applied, Held, Ignored, NoMemory}

-- what a contract sees of a host: the orders that it holds back, its replica, and the number of servant calls
-- so far
pub record Seen : Type 0 where
  pub orders : List HeldOrder
  pub replica : ReplicaPicture
  pub steps : ℕ

abbrev pub seen : List HeldOrder → ReplicaPicture → ℕ → Seen
seen orders replica steps = record { orders = orders; replica = replica; steps = steps }

-- ---- who may be sent what

-- Both stand for a host of a sound group, and the order is one of this group.
pub record CanOrder (machines : ℕ → Machine) (c : Common) (h : Host) (i : ℕ) (request : Request) (now : Seen) : Type 0 where
  pub sound : IsSoundCommon (machines c.kind) c
  pub replica : ReplicaStands machines c now.replica h.place
  pub held : HoldStands c.journal c.ran h.place.position h.holdback now.orders
  pub order : IsOrderOf c i request

-- ---- what comes of it

-- the plain group's answer
abbrev pub cause_of : Bool → ℕ → ℕ → Cause
cause_of loaded i position = if loaded then causes.Order i position else causes.NotLoaded

abbrev pub answer_of : Bool → ℕ → Ordered → GroupAnswer
answer_of loaded i (Applied position) = answers.Applied position
answer_of loaded i (Held position) = answers.Held position
answer_of loaded i (Ignored position) = answers.Ignored (cause_of loaded i position)
answer_of loaded i NoMemory = answers.NoMemory

-- Holdback, replica, answer and servant calls are a turn's.
pub record IsTurn (machines : ℕ → Machine) (h : Host) (i : ℕ) (t : Turn) (ordered : Ordered) (before now : Seen) : Type 0 where
  pub replica : ReplicaStands machines t.common now.replica t.host.place
  pub held : HoldStands t.common.journal t.common.ran t.host.place.position t.host.holdback now.orders
  pub told : t.answer ≡ answer_of h.place.loaded i ordered
  pub calls : now.steps ≡ before.steps + t.calls

-- Memory was wanted on the way: the order is held, the host has run on to a position short of the turn's, and
-- holds back what is from there on. The call that found no memory counts.
pub record IsStopped (machines : ℕ → Machine) (c : Common) (h : Host) (i : ℕ) (before now : Seen) : Type 0 where
  pub position : ℕ
  pub first : h.place.position ≤ position
  pub short : position < (on_order c h i).host.place.position
  pub replica : ReplicaStands machines c now.replica (record h.place { position = position })
  pub held : HoldStands c.journal c.ran position (from position (with_number i h.holdback)) now.orders
  pub calls : now.steps ≡ before.steps + (position - h.place.position) + 1

-- The order had the plain group's turn; or memory was wanted, and all is as before, or the host stopped on the
-- way.
abbrev pub IsOrdered : (ℕ → Machine) → Common → Host → ℕ → Ordered → Seen → Seen → Type 0
IsOrdered machines c h i (Applied position) before now = IsTurn machines h i (on_order c h i) (Applied position) before now
IsOrdered machines c h i (Held position) before now = IsTurn machines h i (on_order c h i) (Held position) before now
IsOrdered machines c h i (Ignored position) before now = IsTurn machines h i (on_order c h i) (Ignored position) before now
IsOrdered machines c h i NoMemory before now = (now ≡ before) ⊎ IsStopped machines c h i before now

-- It is ignored exactly where the replica is past it or has no state; then it is told the replica's position,
-- and all is as before.
abbrev pub IsIgnoredWhere : Bool → ℕ → Ordered → Seen → Seen → Type 0
IsIgnoredWhere past position (Applied n) before now = past ≡ false
IsIgnoredWhere past position (Held n) before now = past ≡ false
IsIgnoredWhere past position (Ignored n) before now = (past ≡ true) × (n ≡ position) × (now ≡ before)
IsIgnoredWhere past position NoMemory before now = past ≡ false

-- ---- what is held

-- the first order is of an entry before a position
abbrev pub begins_below : ℕ → List HeldOrder → Bool
begins_below position [] = false
begins_below position (o ∷ orders) = nat_lt o.0 position

-- ---- the run over what is held

-- the orders are those that a host holds, and the replica its own, which is loaded
pub record CanRun (machines : ℕ → Machine) (c : Common) (place : Place) (holdback : List ℕ) (orders : List HeldOrder) (its_replica : ReplicaPicture) : Type 0 where
  pub sound : IsSoundCommon (machines c.kind) c
  pub replica : ReplicaStands machines c its_replica place
  pub held : HoldStands c.journal c.ran place.position holdback orders
  pub loaded : place.loaded ≡ true

-- it has run all that follow one another, each once
pub record HasRun (machines : ℕ → Machine) (c : Common) (place : Place) (holdback : List ℕ) (its_replica : ReplicaPicture) (before now : ℕ) : Type 0 where
  pub replica : ReplicaStands machines c its_replica (record place { position = reach holdback place.position })
  pub first : place.position ≤ reach holdback place.position
  pub calls : now ≡ before + (reach holdback place.position - place.position)

-- it found no memory for the next one
pub record HasStopped (machines : ℕ → Machine) (c : Common) (place : Place) (holdback : List ℕ) (its_replica : ReplicaPicture) (before now : ℕ) : Type 0 where
  pub position : ℕ
  pub first : place.position ≤ position
  pub short : position < reach holdback place.position
  pub replica : ReplicaStands machines c its_replica (record place { position = position })
  pub calls : now ≡ before + (position - place.position) + 1
