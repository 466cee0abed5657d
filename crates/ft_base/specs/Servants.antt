-- What a servant's calls answer, and how far a state has come from another.
use Rattle.std.specs.Prelude.{◌≡◌, ℕ, Bool, true, false, List, Option, None, Result, Ok, Err}
use Rattle.ft_base.specs.Machine.{Machine}
use Rattle.ft_base.specs.Journal.{Entry, after, AllFit}
use Rattle.ft_base.specs.declared.servants.StateFault.{StateFault}
use Rattle.ft_base.specs.declared.servants.UpdateFault.{UpdateFault}
use Rattle.ft_base.specs.declared.servants.StateFault.TheVariants as state_faults
use Rattle.ft_base.specs.declared.servants.UpdateFault.TheVariants as update_faults

-- bytes are taken only where they are a state, and refused as invalid only where they are none
abbrev pub JudgesState : {X : Type 0} → Bool → Result X StateFault → Type 0
JudgesState is_state (Ok _) = is_state ≡ true
JudgesState is_state (Err state_faults.InvalidState) = is_state ≡ false
JudgesState is_state (Err state_faults.NoMemory) = Unit {0}

-- bytes are refused as invalid only where they are no update
abbrev pub JudgesUpdate : {X : Type 0} → Option (List ℕ) → Result X UpdateFault → Type 0
JudgesUpdate applied (Ok _) = Unit {0}
JudgesUpdate applied (Err update_faults.InvalidUpdate) = applied ≡ None
JudgesUpdate applied (Err update_faults.NoMemory) = Unit {0}

-- the later state comes from the base state by requests that all may be run
pub record IsReached (machine : Machine) (base later : List ℕ) : Type 0 where
  pub entries : List Entry
  pub fit : AllFit machine entries
  pub reached : after machine base entries ≡ later
