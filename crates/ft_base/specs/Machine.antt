-- What a servant is: a function of its state and a request, over the state's bytes.
use Rattle.std.specs.Prelude.{ℕ, ◌≤◌, Bool, List, ◌++◌, length, Option, Some, None}
use Rattle.ft_base.specs.Text.{IsName}
use Rattle.ft_base.specs.Canonical.{IsCanonical, one_of}
use Rattle.ft_base.specs.declared.limits.TheConstants.{RESULT_LIMIT}
use Rattle.ft_base.specs.declared.requests.Par.{Par}
use Rattle.ft_base.specs.declared.requests.Request.{Request}
use Rattle.ft_base.specs.declared.requests.Outcome.{Outcome}
use Rattle.ft_base.specs.declared.requests.Outcome.TheVariants.{Value, User}
use Rattle.ft_base.specs.declared.requests.Signature.{Signature}

-- a kind of servant
pub record Machine : Type 0 where
  -- the operations that there are
  pub signature : List ℕ → Option Signature
  -- whether these are the bytes of a state of this kind
  pub is_state : List ℕ → Bool
  -- the state after a request, and its outcome
  pub step : List ℕ → Request → List ℕ × Outcome
  -- the update bytes from a base state to a later state
  pub delta : List ℕ → List ℕ → List ℕ
  -- the state after an update to a state; none where these bytes are no update of it
  pub applied : List ℕ → List ℕ → Option (List ℕ)

-- arguments are in the canonical form of an operation that there is
abbrev pub FitsAs : Option Signature → List ℕ → Type 0
FitsAs None args = ⊥
FitsAs (Some signature) args = IsCanonical (one_of signature.first ++ one_of signature.second) args

-- what an operation gives, where there is such an operation and it gives a value
abbrev pub gives_of : Option Signature → Option Par
gives_of None = None
gives_of (Some signature) = signature.gives

-- what a request must meet to be run
abbrev pub Fits : Machine → Request → Type 0
Fits machine request = FitsAs (machine.signature request.op) request.args

-- an outcome's value is in the canonical form of what the operation gives, and not too long; a user
-- exception has a name
abbrev pub IsGivenAs : Option Signature → Outcome → Type 0
IsGivenAs None outcome = ⊥
IsGivenAs (Some signature) (Value value) = IsCanonical (one_of signature.gives) value × (length value ≤ RESULT_LIMIT)
IsGivenAs (Some signature) (User name) = IsName name

abbrev pub IsGiven : Machine → Request → Outcome → Type 0
IsGiven machine request outcome = IsGivenAs (machine.signature request.op) outcome
