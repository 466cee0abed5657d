-- What an event at a group of a world leaves, and a client's start.
use Rattle.std.specs.Prelude.{◌≡◌, ℕ, ◌+◌, ◌<◌, ◌≤◌, ◌^◌, ◌⊎◌, Bool, if◌then◌else◌, List, [], ◌∷◌, slice_get, Option, Some, None}
use Rattle.ft_base.specs.declared.numbers.HostNo.{HostNo}
use Rattle.group_model.specs.declared.events.Event.{Event}
use Rattle.group_model.specs.declared.events.Event.TheVariants as events
use Rattle.group_model.specs.declared.events.GroupAnswer.{GroupAnswer}
use Rattle.group_model.specs.declared.events.GroupAnswer.TheVariants.{NoMemory}
use Rattle.script_clients.specs.Clients.{Client, Turn, starting}
use Rattle.script_groups.specs.Acting.{poisoned}
use Rattle.script_groups.specs.Groups.{ScriptGroup, Placed, acted, placed, turn}
use Rattle.script_world.specs.declared.worlds.Begun.{Begun}
use Rattle.script_world.specs.World.{World, with_event}

-- the group at a place has had the event; the answer and the servant calls are its turn's
pub record HasTurnAt (w : World) (place : ℕ) (e : Event) (answer : GroupAnswer) (later : World) (before now : ℕ) : Type 0 where
  pub group : ScriptGroup
  pub there : slice_get w.groups place ≡ Some group
  pub is : later ≡ with_event w place group e
  pub told : (turn group e).answer ≡ answer
  pub calls : now ≡ before + (turn group e).calls

pub record IsShortAt (w : World) (place : ℕ) (e : Event) (before now : ℕ) : Type 0 where
  pub group : ScriptGroup
  pub there : slice_get w.groups place ≡ Some group
  pub calls : now ≤ before + (turn group e).calls

-- where memory was wanted, no more servant calls were made
abbrev pub EventAt : World → ℕ → Event → GroupAnswer → World → ℕ → ℕ → Type 0
EventAt w place e NoMemory later before now = IsShortAt w place e before now
EventAt w place e answer later before now = HasTurnAt w place e answer later before now

-- what a host that stops or starts again is to a group
abbrev pub power_event : Bool → HostNo → Event
power_event up host = if up then events.Restart host else events.Crash host

-- groups some of which have had an event, or were poisoned in it
abbrev pub IsOrHas : ScriptGroup → Event → ScriptGroup → Type 0
IsOrHas g e later = (later ≡ g) ⊎ ((later ≡ acted g e) ⊎ (later ≡ poisoned g))

abbrev pub AreOrHave : List ScriptGroup → Event → List ScriptGroup → Type 0
AreOrHave [] e [] = Unit {0}
AreOrHave [] e (h ∷ hs) = ⊥
AreOrHave (g ∷ gs) e [] = ⊥
AreOrHave (g ∷ gs) e (h ∷ hs) = IsOrHas g e h × AreOrHave gs e hs

-- memory was not wanted
abbrev pub IsMade : GroupAnswer → Type 0 → Type 0
IsMade NoMemory P = Unit {0}
IsMade answer P = P

-- a place by name, as code finds it
abbrev pub IsPlace : {A : Type 0} → Option (Placed A) → List A → Option ℕ → Type 0
IsPlace {A} wanted xs None = wanted ≡ None
IsPlace {A} wanted xs (Some i) = (x : A) × (wanted ≡ Some (placed i x)) × (slice_get xs i ≡ Some x)

-- ---- clients

-- what a client begins an invocation with
abbrev pub begin : Client → Begun → Turn
begin c b = starting c b.reference b.expiration b.numbers b.versioned b.request

-- a client that has begun few invocations
abbrev pub CanStart : Client → Type 0
CanStart c = (c.started + 1 < 2 ^ 31) × (c.numbered + 1 < 2 ^ 31)
