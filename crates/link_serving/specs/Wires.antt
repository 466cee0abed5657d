-- What a link tells of itself, and what calls leave of that.
use Rattle.std.specs.Prelude.{◌≡◌, ℕ, ◌<◌, List, [], ◌++◌, length, take, Option, option_map}
use Rattle.ft_outside.specs.Outside.{next_count}
use Rattle.giop_messages.specs.declared.heads.TheConstants.{HEAD_LENGTH}
use Rattle.giop_stream.specs.Parts.{Received}
use Rattle.giop_stream.specs.Sessions.{Serves, Serving}
use Rattle.link_serving.specs.declared.receiving.Came.{Came}
use Rattle.link_serving.specs.declared.receiving.Came.TheVariants as comes

-- what is left to read and what was written, each where the link tells it, and its faults
pub record Wire : Type 0 where
  pub left : Option (List ℕ)
  pub holds : Option (List ℕ)
  pub faults : ℕ

abbrev pub wire : Option (List ℕ) → Option (List ℕ) → ℕ → Wire
wire left holds faults = record { left = left; holds = holds; faults = faults }

-- these bytes were written
abbrev pub Gained : List ℕ → Wire → Wire → Type 0
Gained bytes w v = v.holds ≡ option_map (λ held. held ++ bytes) w.holds

-- these bytes were read
abbrev pub Lost : List ℕ → Wire → Wire → Type 0
Lost bytes w v = w.left ≡ option_map (λ left. bytes ++ left) v.left

-- a front of a text was written, and then a write failed
abbrev pub GainedFront : List ℕ → Wire → Wire → Type 0
GainedFront text w v = (k : ℕ) × (k < length text) × Gained (take k text) w v

-- what came, to a session (s and t) and to the front of the link (f and g)
abbrev pub HasCame : Serving → Serving → List ℕ → List ℕ → Wire → Wire → Came → Type 0
HasCame s t f g w v comes.Some =
    (piece : List ℕ) × Lost piece w v × ((fed : List ℕ) (given : List Received) → Serves s fed given → Serves t (fed ++ piece) given)
    × (g ≡ take HEAD_LENGTH (f ++ piece)) × (v.holds ≡ w.holds) × (v.faults ≡ w.faults)
HasCame s t f g w v comes.End = (t ≡ s) × (g ≡ f) × (v ≡ w) × (w.left ≡ option_map (λ _. []) w.left)
HasCame s t f g w v comes.Failed = (v.left ≡ w.left) × (v.holds ≡ w.holds) × (v.faults ≡ next_count w.faults)
HasCame s t f g w v comes.NoMemory = (piece : List ℕ) × Lost piece w v × (t ≡ s) × (v.holds ≡ w.holds) × (v.faults ≡ w.faults)
