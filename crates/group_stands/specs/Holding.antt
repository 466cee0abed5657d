-- When the orders that a host holds back stand for the plain group, and how they go on.
use Rattle.std.specs.Prelude.{◌≡◌, ℕ, ◌<◌, ◌≤◌, true, Bool, nat_le, if◌then◌else◌, List, [], length, map, slice_get, Option, Some, is_some}
use Rattle.std.specs.BTreeMap.{insert_entry, is_at}
use Rattle.std.specs.List.{AllByRecursion, filter}
use Rattle.std.specs.Map.{lookup}
use Rattle.std.specs.Ordering.{nat_cmp}
use Rattle.ft_base.specs.Machine.{Machine, Fits}
use Rattle.ft_base.specs.Journal.{Entry}
use Rattle.ft_base.specs.declared.limits.TheConstants.{JOURNAL_LIMIT}
use Rattle.ft_base.specs.declared.requests.Request.{Request}
use Rattle.ft_replica.specs.Picture.{Picture as ReplicaPicture, one_further}
use Rattle.group_model.specs.Agreeing.{IsSoundCommon, IsOrdered}
use Rattle.group_model.specs.Laws.{Grows}
use Rattle.group_model.specs.Plain.{Common, Place, from, is_held, with_number, with_ran}
use Rattle.group_model.specs.Serving.{joined}
use Rattle.group_stands.specs.Stands.{ReplicaStands}
use Rattle.group_stands.specs.Going.{moved}

-- ---- orders that are held back

-- an order, as a map of orders has it: an entry's place in the journal, and its request
abbrev pub HeldOrder : Type 0
HeldOrder = ℕ × Request

abbrev pub indices : List HeldOrder → List ℕ
indices orders = map (λ (o : HeldOrder). o.0) orders

-- the request of the order of this entry, where one is held
abbrev pub request_of : ℕ → List HeldOrder → Option Request
request_of i orders = lookup (is_at (nat_cmp i)) orders

abbrev pub holds : ℕ → List HeldOrder → Bool
holds i orders = is_some (request_of i orders)

-- those of the entries from a position on
abbrev pub orders_from : ℕ → List HeldOrder → List HeldOrder
orders_from position orders = filter (λ (o : HeldOrder). nat_le position o.0) orders

-- with one more at its place in the map, unless one of this entry is held
abbrev pub with_order : ℕ → Request → List HeldOrder → List HeldOrder
with_order i request orders = if holds i orders then orders else insert_entry nat_cmp orders i request

-- ---- they stand for the plain group

-- the request is the journal's at that place, some host has run it, and a host at this position has not
pub record IsHeld (journal : List Entry) (ran position : ℕ) (order : HeldOrder) : Type 0 where
  pub to_come : position ≤ order.0
  pub has_run : order.0 < ran
  pub entry : Entry
  pub there : slice_get journal order.0 ≡ Some entry
  pub same : entry.request ≡ order.1

-- the same numbers, in any order: of both as many pass any test
abbrev pub AreSame : List ℕ → List ℕ → Type 0
AreSame xs ys = (test : ℕ → Bool) → length (filter test xs) ≡ length (filter test ys)

-- A host at a position holds these orders back: their numbers are those that the plain group's host holds, and
-- each is of an entry that is still to come.
pub record HoldStands (journal : List Entry) (ran position : ℕ) (holdback : List ℕ) (orders : List HeldOrder) : Type 0 where
  pub numbers : AreSame (indices orders) holdback
  pub each : AllByRecursion (IsHeld journal ran position) orders

-- ---- how they go on

-- no orders stand for a host that holds nothing back
abbrev pub NothingIsHeld : Type 0
NothingIsHeld = (journal : List Entry) (ran position : ℕ) (holdback : List ℕ) → holdback ≡ [] → HoldStands journal ran position holdback []

-- they go on standing while the group grows
abbrev pub HoldbacksGoOn : Type 0
HoldbacksGoOn = (c later : Common) (position : ℕ) (holdback : List ℕ) (orders : List HeldOrder) →
    HoldStands c.journal c.ran position holdback orders → Grows c later → HoldStands later.journal later.ran position holdback orders

-- so they do where a request joins
abbrev pub HoldbacksGoOnJoined : Type 0
HoldbacksGoOnJoined = (c : Common) (position : ℕ) (holdback : List ℕ) (orders : List HeldOrder) →
    HoldStands c.journal c.ran position holdback orders → (now : ℕ) (request : Request) →
    HoldStands (joined c now request).journal (joined c now request).ran position holdback orders

-- and where entries are run
abbrev pub HoldbacksGoOnRan : Type 0
HoldbacksGoOnRan = (c : Common) (position : ℕ) (holdback : List ℕ) (orders : List HeldOrder) →
    HoldStands c.journal c.ran position holdback orders → (n : ℕ) → HoldStands c.journal (with_ran n c).ran position holdback orders

-- those from a position on are what a host there holds
abbrev pub HoldbacksAreDropped : Type 0
HoldbacksAreDropped = (journal : List Entry) (ran position : ℕ) (holdback : List ℕ) (orders : List HeldOrder) →
    HoldStands journal ran position holdback orders → (n : ℕ) → HoldStands journal ran n (from n holdback) (orders_from n orders)

-- a host that is where the group is holds nothing
abbrev pub FurthestHoldNothing : Type 0
FurthestHoldNothing = (journal : List Entry) (ran position : ℕ) (holdback : List ℕ) (orders : List HeldOrder) →
    HoldStands journal ran position holdback orders → ran ≤ position → (holdback ≡ []) × (orders ≡ [])

-- an order that is still to come is held
abbrev pub OrdersAreHeld : Type 0
OrdersAreHeld = (c : Common) (position : ℕ) (holdback : List ℕ) (orders : List HeldOrder) →
    HoldStands c.journal c.ran position holdback orders → (i : ℕ) (request : Request) → IsOrdered c i request → position ≤ i →
    HoldStands c.journal c.ran position (with_number i holdback) (with_order i request orders)

-- ---- what they tell

-- an entry's order is held exactly where its number is
abbrev pub HoldbacksTell : Type 0
HoldbacksTell = (journal : List Entry) (ran position : ℕ) (holdback : List ℕ) (orders : List HeldOrder) →
    HoldStands journal ran position holdback orders → (i : ℕ) → is_held i holdback ≡ holds i orders

-- each is an order of the group
abbrev pub HeldAreOrdered : Type 0
HeldAreOrdered = (c : Common) (position : ℕ) (holdback : List ℕ) (orders : List HeldOrder) →
    HoldStands c.journal c.ran position holdback orders → (i : ℕ) (request : Request) → request_of i orders ≡ Some request →
    IsOrdered c i request × (is_held i holdback ≡ true)

-- ---- an order is run

-- its request may be run, and a replica at its place may count one entry more
abbrev pub OrdersFit : Type 0
OrdersFit = (machines : ℕ → Machine) (c : Common) → IsSoundCommon (machines c.kind) c → (i : ℕ) (request : Request) → IsOrdered c i request →
    Fits (machines c.kind) request × (i < JOURNAL_LIMIT)

-- a replica that runs the order of the entry at its position stands one entry further on
abbrev pub OrdersRun : Type 0
OrdersRun = (machines : ℕ → Machine) (c : Common) (replica : ReplicaPicture) (place : Place) →
    ReplicaStands machines c replica place → place.loaded ≡ true → (request : Request) → IsOrdered c place.position request →
    ReplicaStands machines c (one_further (machines replica.kind) request replica) (moved place)
