-- What is set in a world: what the calls that set it answer and leave.
use Rattle.std.specs.Prelude.{◌≡◌, ◌⊎◌, ℕ, true, List, Option, Some, None, Result, Ok, Err}
use Rattle.ft_base.specs.declared.numbers.GroupId.{GroupId}
use Rattle.property_manager.specs.declared.effective.Levels.{Levels}
use Rattle.property_manager.specs.declared.faults.PropertyFault.{PropertyFault}
use Rattle.property_manager.specs.declared.faults.PropertyFault.TheVariants as faults
use Rattle.property_manager.specs.declared.settings.Property.{Property}
use Rattle.property_manager.specs.Groups.{Settings, level_of, put_group, put_level, with_dynamic}
use Rattle.property_manager.specs.Judging.{refusal}
use Rattle.property_manager.specs.Levels.{settled, without}
use Rattle.script_world.specs.World.{World, with_settings}
use Rattle.shipped_servants.specs.declared.kinds.Kind.{Kind}
use Rattle.shipped_servants.specs.Kinds.{type_id}

-- ---- what is set after a call

abbrev pub default_settings : Settings → List Property → Settings
default_settings s ps = record s { defaults = settled s.defaults ps }

abbrev pub without_defaults : Settings → List (List ℕ) → Settings
without_defaults s gone = record s { defaults = without gone s.defaults }

-- what is set for a kind, by its type id
abbrev pub kind_level : Settings → Kind → List Property
kind_level s kind = level_of s.by_type (type_id kind)

abbrev pub with_kind_level : Settings → Kind → List Property → Settings
with_kind_level s kind level = record s { by_type = put_level s.by_type (type_id kind) level }

abbrev pub type_settings : Settings → Kind → List Property → Settings
type_settings s kind ps = with_kind_level s kind (settled (kind_level s kind) ps)

abbrev pub without_type : Settings → Kind → List (List ℕ) → Settings
without_type s kind gone = with_kind_level s kind (without gone (kind_level s kind))

-- a group with these levels takes more while it runs
abbrev pub group_settings : Settings → GroupId → Levels → List Property → Settings
group_settings s group levels ps = record s { groups = put_group s.groups group.0 (with_dynamic levels ps) }

-- ---- what a call answers

-- properties are set whole or not at all
abbrev pub Settles : Option PropertyFault → World → Settings → Result (Unit {0}) PropertyFault → World → Type 0
Settles why old after (Ok done) new = (why ≡ None) × (new ≡ with_settings old after)
Settles why old after (Err fault) new = ((fault ≡ faults.NoMemory) ⊎ (why ≡ Some fault)) × (new ≡ old)

-- that the group isn't there comes first
abbrev pub SettlesFor : GroupId → List Property → Option Levels → World → Result (Unit {0}) PropertyFault → World → Type 0
SettlesFor group ps None old result new = (result ≡ Err (faults.ObjectGroupNotFound group)) × (new ≡ old)
SettlesFor group ps (Some levels) old result new = Settles (refusal true ps) old (group_settings old.settings group levels ps) result new
