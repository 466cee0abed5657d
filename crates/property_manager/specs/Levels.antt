-- The levels at which properties are set, and the effective value. (Chapter 23, PropertyManager.)
use Rattle.std.specs.Prelude.{ℕ, Bool, not, List, [], ◌∷◌, ◌++◌, map, Option, Some, None}
use Rattle.std.specs.List.{filter, find, list_any}
use Rattle.std.specs.Str.{bytes_eq}
use Rattle.property_manager.specs.declared.names.PropertyName.{PropertyName}
use Rattle.property_manager.specs.declared.settings.Property.{Property}
use Rattle.property_manager.specs.Names.{all, text_of, built_in}

-- ---- a level is a list of settings

abbrev pub has_name : List ℕ → List Property → Bool
has_name name ps = list_any (λ p. bytes_eq p.name name) ps

abbrev pub is_among : List ℕ → List (List ℕ) → Bool
is_among name others = list_any (λ other. bytes_eq other name) others

-- a level after a list is set: its own settings of other names, and then the list
abbrev pub settled : List Property → List Property → List Property
settled level ps = filter (λ p. not (has_name p.name ps)) level ++ ps

-- a level after names are removed
abbrev pub without : List (List ℕ) → List Property → List Property
without gone level = filter (λ p. not (is_among p.name gone)) level

-- ---- the effective value

-- what a level sets for a property
abbrev pub setting : PropertyName → List Property → Option Property
setting name level = find (λ p. bytes_eq p.name (text_of name)) level

abbrev pub value_or : List ℕ → Option Property → List ℕ
value_or below None = below
value_or below (Some p) = p.value.0

-- a level over the value below
unfoldable pub over : PropertyName → List ℕ → List Property → List ℕ
over name below level = value_or below (setting name level)

-- each level over the one before
abbrev pub over_all : PropertyName → List ℕ → List (List Property) → List ℕ
over_all name below [] = below
over_all name below (level ∷ levels) = over_all name (over name below level) levels

-- the effective value of a property: what the last of the levels that sets it says, else the value that is built in
abbrev pub effective : List (List Property) → PropertyName → List ℕ
effective levels name = over_all name (built_in name) levels

abbrev pub valued : PropertyName → List ℕ → Property
valued name value = record { name = text_of name; value = record { 0 = value } }

-- all ten properties with their effective values
unfoldable pub all_effective : List (List Property) → List Property
all_effective levels = map (λ name. valued name (effective levels name)) all
