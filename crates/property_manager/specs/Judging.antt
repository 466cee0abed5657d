-- Why a list of properties, or of names, is refused: the first place at fault.
use Rattle.std.specs.Prelude.{ℕ, ◌&&◌, ◌||◌, Bool, true, false, if◌then◌else◌, List, [], ◌∷◌, ◌++◌, length, Option, Some, None, is_none, option_map, Result, Ok, Err}
use Rattle.property_manager.specs.declared.faults.PropertyFault.{PropertyFault}
use Rattle.property_manager.specs.declared.faults.PropertyFault.TheVariants as faults
use Rattle.property_manager.specs.declared.names.PropertyName.{PropertyName}
use Rattle.property_manager.specs.declared.names.PropertyName.TheVariants as names
use Rattle.property_manager.specs.declared.settings.Property.{Property}
use Rattle.property_manager.specs.declared.standings.Standing.{Standing}
use Rattle.property_manager.specs.declared.standings.Standing.TheVariants as standings
use Rattle.property_manager.specs.Levels.{has_name, is_among}
use Rattle.property_manager.specs.Names.{named}
use Rattle.property_manager.specs.Standings.{standing_of, is_unlisted, is_unsupported}

-- the first place of a list that is at fault, which may depend on those before it
unfoldable pub first_place : {A : Type 0} → (List A → A → Bool) → List A → List A → Option ℕ
first_place at_fault before [] = None
first_place at_fault before (x ∷ rest) = if at_fault before x then Some (length before) else first_place at_fault (before ++ x ∷ []) rest

-- ---- of properties

abbrev pub standing_by : Option PropertyName → List ℕ → Standing
standing_by None text = standings.Unlisted
standing_by (Some name) text = standing_of name text

unfoldable pub standing_in : Property → Standing
standing_in p = standing_by (named p.name) p.value.0

-- its name is unknown or stands before, or its value isn't one of that property
abbrev pub is_invalid : List Property → Property → Bool
is_invalid before p = is_unlisted (standing_in p) || has_name p.name before

-- what is settled at a group's creation
abbrev pub is_fixed : PropertyName → Bool
is_fixed names.ReplicationStyle = true
is_fixed names.MembershipStyle = true
is_fixed names.ConsistencyStyle = true
is_fixed names.FaultMonitoringStyle = false
is_fixed names.FaultMonitoringGranularity = false
is_fixed names.Factories = false
is_fixed names.InitialNumberReplicas = true
is_fixed names.MinimumNumberReplicas = false
is_fixed names.FaultMonitoringIntervalAndTimeout = false
is_fixed names.CheckpointInterval = false

abbrev pub is_fixed_name : Option PropertyName → Bool
is_fixed_name None = false
is_fixed_name (Some name) = is_fixed name

-- its value isn't supported, or the list is for a group that runs and it can't be set then
abbrev pub is_refused : Bool → List Property → Property → Bool
is_refused runs before p = is_unsupported (standing_in p) || (runs && is_fixed_name (named p.name))

-- an invalid property comes before any unsupported one
abbrev pub refused_at : Option ℕ → Option ℕ → Option PropertyFault
refused_at (Some place) unsupported = Some (faults.InvalidProperty place)
refused_at None unsupported = option_map (λ place. faults.UnsupportedProperty place) unsupported

abbrev pub refusal : Bool → List Property → Option PropertyFault
refusal runs ps = refused_at (first_place is_invalid [] ps) (first_place (is_refused runs) [] ps)

-- ---- of names to remove

-- unknown, or it stands before
abbrev pub is_wrong : List (List ℕ) → List ℕ → Bool
is_wrong before name = is_none (named name) || is_among name before

abbrev pub refusal_of_names : List (List ℕ) → Option PropertyFault
refusal_of_names gone = option_map (λ place. faults.InvalidProperty place) (first_place is_wrong [] gone)

-- ---- what a call answers that is refused only so

abbrev pub judged : Option PropertyFault → Result (Unit {0}) PropertyFault
judged None = Ok tt
judged (Some why) = Err why
