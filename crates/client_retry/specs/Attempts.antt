-- Where the next attempt goes, or how the invocation ends without one.
use Rattle.std.specs.Prelude.{ℕ, ◌+◌, ◌*◌, ◌%◌, ◌==◌, Bool, nat_le, if◌then◌else◌, List, [], ◌∷◌, length, unwrap_or, Result, Ok, Err}
use Rattle.ft_base.specs.declared.numbers.Tick.{Tick}
use Rattle.iogr_reference.specs.declared.references.GroupRef.{GroupRef}
use Rattle.client_retry.specs.declared.limits.TheConstants.{ROUNDS, LAST_ID}
use Rattle.client_retry.specs.declared.answers.End.{End}
use Rattle.client_retry.specs.declared.answers.End.TheVariants.{NoResponse, Transient, IdsSpent}

-- The place of the target's profile. The primary's comes first, then those behind it, and behind the last the
-- first. Without a primary it is the reference's first profile that comes first.
abbrev pub target : GroupRef → ℕ → ℕ
target reference faults = (unwrap_or reference.primary 0 + faults) % length reference.profiles

-- an end, and whether it has come
pub record Ending : Type 0 where
  pub has_come : Bool
  pub end : End

abbrev pub ending : Bool → End → Ending
ending has_come end = record { has_come = has_come; end = end }

-- the first end that has come; where none has, the attempt at this place
abbrev pub unless_ended : List Ending → ℕ → Result ℕ End
unless_ended [] place = Ok place
unless_ended (e ∷ endings) place = if e.has_come then Err e.end else unless_ended endings place

-- over a reference that the invocation begins with, or adopts
abbrev pub at_first : GroupRef → ℕ → Result ℕ End
at_first reference last =
    unless_ended (
    ending (length reference.profiles == 0) (Transient 0 0)
    ∷ ending (last == LAST_ID) IdsSpent
    ∷ [])
    (target reference 0)

-- at a fault, by the faults over this reference, this one among them
abbrev pub at_fault : GroupRef → ℕ → ℕ → Tick → Tick → Result ℕ End
at_fault reference faults last expiration now =
    unless_ended (
    ending (nat_le expiration.0 now.0) (NoResponse expiration now)
    ∷ ending (faults == ROUNDS * length reference.profiles) (Transient faults (length reference.profiles))
    ∷ ending (last == LAST_ID) IdsSpent
    ∷ [])
    (target reference faults)
