-- Properties as words: a name and a value, apart or joined by `=`.
use Rattle.std.specs.Prelude.{ℕ, ◌+◌, ◌==◌, if◌then◌else◌, List, take, drop, position, Option, Some, None}
use Rattle.property_manager.specs.declared.settings.Property.{Property}
use Rattle.fault_script.specs.Words.{is_identifier}

-- the property with this name and this value, each of any bytes
abbrev pub property : List ℕ → List ℕ → Property
property name value = record { name = name; value = record { 0 = value } }

-- the same, where its name is one
abbrev pub property_of : List ℕ → List ℕ → Option Property
property_of name value = if is_identifier name then Some (property name value) else None

-- the place of the first `=`
abbrev pub equals_place : List ℕ → Option ℕ
equals_place word = position (λ byte. byte == 61) word

-- the bytes before a place are the name, and those behind it the value
abbrev pub divided_at : List ℕ → Option ℕ → Option Property
divided_at word None = None
divided_at word (Some place) = property_of (take place word) (drop (place + 1) word)

-- `P=V`, of which the first `=` ends P
abbrev pub criterion : List ℕ → Option Property
criterion word = divided_at word (equals_place word)
