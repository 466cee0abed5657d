-- What is set: the defaults, by type, and for each group. (Chapter 23, PropertyManager.)
use Rattle.std.specs.Prelude.{◌≡◌, ◌⊎◌, ℕ, nat_eq, true, List, [], ◌∷◌, map, Option, Some, None, Result, Ok, Err}
use Rattle.std.specs.declared.vec.Vec.{Vec}
use Rattle.std.specs.Map.{lookup}
use Rattle.std.specs.Option.{unwrap_or}
use Rattle.std.specs.Str.{bytes_eq}
use Rattle.indexmap.specs.IndexMap.{insert_entry, shift_remove_entry}
use Rattle.ft_base.specs.declared.numbers.GroupId.{GroupId}
use Rattle.property_manager.specs.declared.effective.Levels.{Levels}
use Rattle.property_manager.specs.declared.faults.PropertyFault.{PropertyFault}
use Rattle.property_manager.specs.declared.faults.PropertyFault.TheVariants as faults
use Rattle.property_manager.specs.declared.settings.Property.{Property}
use Rattle.property_manager.specs.Judging.{refusal}
use Rattle.property_manager.specs.Levels.{settled, all_effective}

pub record Settings : Type 0 where
  pub defaults : List Property
  -- what is set by the id of a type
  pub by_type : List (List ℕ × List Property)
  -- what is set for the group of a number
  pub groups : List (ℕ × Levels)

abbrev pub nothing_set : Settings
nothing_set = record { defaults = []; by_type = []; groups = [] }

-- ---- by type

-- the types of a map, by their texts
abbrev pub types_of : {A : Type 0} → List (Vec ℕ A × List Property) → List (List ℕ × List Property)
types_of entries = map (λ e. (e.0.items, e.1)) entries

unfoldable pub level_of : List (List ℕ × List Property) → List ℕ → List Property
level_of types id = unwrap_or (lookup (bytes_eq id) types) []

-- the level of one type is another now
unfoldable pub put_level : List (List ℕ × List Property) → List ℕ → List Property → List (List ℕ × List Property)
put_level types id level = insert_entry bytes_eq types id level

-- ---- for a group

abbrev pub levels_of : Levels → List (List Property)
levels_of levels = levels.defaults ∷ levels.by_type ∷ levels.criteria ∷ levels.dynamic ∷ []

abbrev pub group_of : List (ℕ × Levels) → ℕ → Option Levels
group_of groups number = lookup (nat_eq number) groups

abbrev pub put_group : List (ℕ × Levels) → ℕ → Levels → List (ℕ × Levels)
put_group groups number levels = insert_entry nat_eq groups number levels

abbrev pub dropped : List (ℕ × Levels) → ℕ → List (ℕ × Levels)
dropped groups number = shift_remove_entry (nat_eq number) groups

-- a group takes what is set for all and for its type when it is made, and its criteria
abbrev pub taken : Settings → List ℕ → List Property → Levels
taken s type_id criteria = record { defaults = s.defaults; by_type = level_of s.by_type type_id; criteria = criteria; dynamic = [] }

abbrev pub with_dynamic : Levels → List Property → Levels
with_dynamic levels ps = record levels { dynamic = settled levels.dynamic ps }

-- ---- what calls answer and leave

-- a list is set whole or not at all
abbrev pub IsSet : Option PropertyFault → Settings → Settings → Result (Unit {0}) PropertyFault → Settings → Type 0
IsSet why old after (Ok done) new = (why ≡ None) × (new ≡ after)
IsSet why old after (Err fault) new = ((fault ≡ faults.NoMemory) ⊎ (why ≡ Some fault)) × (new ≡ old)

-- that the group isn't there comes first
abbrev pub IsSetFor : GroupId → List Property → Option Levels → Settings → Result (Unit {0}) PropertyFault → Settings → Type 0
IsSetFor group ps None old result new = (result ≡ Err (faults.ObjectGroupNotFound group)) × (new ≡ old)
IsSetFor group ps (Some levels) old result new =
    IsSet (refusal true ps) old (record old { groups = put_group old.groups group.0 (with_dynamic levels ps) }) result new

abbrev pub IsGot : GroupId → Option Levels → Result (List Property) PropertyFault → Type 0
IsGot group None result = result ≡ Err (faults.ObjectGroupNotFound group)
IsGot group (Some levels) (Ok ps) = ps ≡ all_effective (levels_of levels)
IsGot group (Some levels) (Err fault) = fault ≡ faults.NoMemory
