-- Servants over values: the bytes of a state are the spelling of a value, and requests and updates are
-- functions of values. A servant's function over bytes, and its laws, then come from those of the values.
use Rattle.std.specs.Prelude.{◌≡◌, ℕ, ◌+◌, ◌^◌, ◌<◌, Bool, true, ◌&&◌, if◌then◌else◌, List, length, Option, Some, None, option_map, is_some}
use Rattle.std.specs.Str.{bytes_eq}
use Rattle.ft_base.specs.Machine.{Machine, FitsAs, IsGivenAs}
use Rattle.ft_base.specs.declared.requests.Request.{Request}
use Rattle.ft_base.specs.declared.requests.Outcome.{Outcome}
use Rattle.ft_base.specs.declared.requests.Signature.{Signature}

-- a kind of servant whose values are of the type X
pub record Coding (X : Type 0) : Type 0 where
  -- the operations that there are
  pub signature : List ℕ → Option Signature
  -- the value of a servant that opens
  pub opening : X
  -- the values that a servant may have
  pub valid : X → Bool
  -- a value's state bytes
  pub spelled : X → List ℕ
  -- the value that bytes say, where they say one
  pub read : List ℕ → Option X
  -- the value after a request, and its outcome
  pub step : X → Request → X × Outcome
  -- the update bytes from a value to a later one
  pub delta : X → X → List ℕ
  -- the value after an update to a value; none where these bytes are no update of it
  pub applied : X → List ℕ → Option X

-- the value whose spelling the bytes are
abbrev pub said_by : {X : Type 0} → (X → Bool) → (X → List ℕ) → List ℕ → Option X → Option X
said_by valid spelled bytes None = None
said_by valid spelled bytes (Some x) = if valid x && bytes_eq bytes (spelled x) then Some x else None

abbrev pub said : {X : Type 0} → (X → Bool) → (X → List ℕ) → (List ℕ → Option X) → List ℕ → Option X
said valid spelled read bytes = said_by valid spelled bytes (read bytes)

-- the value whose state bytes these are
unfoldable pub value_in : {X : Type 0} → Coding X → List ℕ → Option X
value_in c bytes = said c.valid c.spelled c.read bytes

abbrev pub or_opening : {X : Type 0} → Coding X → Option X → X
or_opening c None = c.opening
or_opening c (Some x) = x

-- the value of a state; of other bytes, the opening one
abbrev pub value_of : {X : Type 0} → Coding X → List ℕ → X
value_of c bytes = or_opening c (value_in c bytes)

-- the state bytes of a servant with this value, which is a valid one
unfoldable pub state_of : {X : Type 0} → Coding X → X → List ℕ
state_of c x = c.spelled (if c.valid x then x else c.opening)

-- the servant's function over state bytes
unfoldable pub machine_of : {X : Type 0} → Coding X → Machine
machine_of c = record {
  signature = c.signature;
  is_state = λ state. is_some (value_in c state);
  step = λ state request. let next = c.step (value_of c state) request in (c.spelled next.0, next.1);
  delta = λ base later. c.delta (value_of c base) (value_of c later);
  applied = λ state update. option_map c.spelled (c.applied (value_of c state) update);
}

-- What a kind of servant owes. `Leads x y` says how the value y may come from x by requests.
pub record IsCoding {X : Type 0} (c : Coding X) (Leads : X → X → Type 0) : Type 0 where
  pub opens : c.valid c.opening ≡ true
  -- a value's state bytes say that value, and are few
  pub reads_back : (x : X) → c.valid x ≡ true → c.read (c.spelled x) ≡ Some x
  pub short : (x : X) → c.valid x ≡ true → length (c.spelled x) + 8 < 2 ^ 32
  -- a request leaves a value, and gives what its operation gives
  pub stays : (x : X) (q : Request) → c.valid x ≡ true → FitsAs (c.signature q.op) q.args → c.valid (c.step x q).0 ≡ true
  pub gives : (x : X) (q : Request) → c.valid x ≡ true → FitsAs (c.signature q.op) q.args
      → IsGivenAs (c.signature q.op) (c.step x q).1
  -- an update leaves a value, and one to a later value leads there
  pub update_short : (x y : X) → c.valid x ≡ true → c.valid y ≡ true → length (c.delta x y) + 8 < 2 ^ 32
  pub update_stays : (x y : X) (u : List ℕ) → c.valid x ≡ true → c.applied x u ≡ Some y → c.valid y ≡ true
  pub leads_itself : (x : X) → c.valid x ≡ true → Leads x x
  pub leads_on : (x y : X) (q : Request) → c.valid x ≡ true → c.valid y ≡ true → FitsAs (c.signature q.op) q.args
      → Leads x y → Leads x (c.step y q).0
  pub updates : (x y : X) → c.valid x ≡ true → c.valid y ≡ true → Leads x y → c.applied x (c.delta x y) ≡ Some y
