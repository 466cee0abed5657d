-- Lines that set and read properties. (Chapter 23, PropertyManager.)
use Rattle.std.specs.Prelude.{◌≡◌, ℕ, false, true, List, [], ◌∷◌, Option, Some, None, Result, Ok, Err}
use Rattle.std.specs.List.{find}
use Rattle.std.specs.Str.{bytes_eq}
use Rattle.fault_script.specs.declared.lines.Level.{Level}
use Rattle.fault_script.specs.declared.lines.Level.TheVariants as levels
use Rattle.fault_script.specs.declared.lines.LineFault.{LineFault}
use Rattle.fault_script.specs.declared.lines.LineFault.TheVariants as line_faults
use Rattle.ft_report.specs.declared.reports.ReportLine.{ReportLine}
use Rattle.ft_report.specs.declared.reports.ReportLine.TheVariants as reports
use Rattle.ft_report.specs.declared.reports.SettingFault.TheVariants as settings
use Rattle.group_model.specs.declared.changes.ManageFault.TheVariants.{ObjectGroupNotFound}
use Rattle.property_manager.specs.declared.effective.Levels.{Levels}
use Rattle.property_manager.specs.declared.faults.PropertyFault.{PropertyFault}
use Rattle.property_manager.specs.declared.faults.PropertyFault.TheVariants as faults
use Rattle.property_manager.specs.declared.settings.Property.{Property}
use Rattle.property_manager.specs.Groups.{Settings, group_of, levels_of}
use Rattle.property_manager.specs.Judging.{refusal, refusal_of_names}
use Rattle.property_manager.specs.Levels.{all_effective}
use Rattle.script_groups.specs.Groups.{ScriptGroup, Placed, group_named}
use Rattle.script_world.specs.Settings.{default_settings, group_settings, type_settings, without_defaults, without_type}
use Rattle.script_world.specs.World.{World, with_settings}
use Rattle.world_management.specs.Creating.{values_of_kind}
use Rattle.world_management.specs.Making.{kind_of}
use Rattle.world_turns.specs.Turns.{Effect, Turn, Refused, goes, says}

-- ---- what is set: `set default P V`, `set type KIND P V`, `set group G P V`, `unset default P`, `unset type KIND P`

-- why it isn't; want of memory ends a line otherwise
abbrev pub property_refused : PropertyFault → List ReportLine
property_refused (faults.InvalidProperty place) = reports.RefusedSetting (settings.InvalidProperty place) ∷ []
property_refused (faults.UnsupportedProperty place) = reports.RefusedSetting (settings.UnsupportedProperty place) ∷ []
property_refused (faults.ObjectGroupNotFound group) = reports.Refused ObjectGroupNotFound ∷ []
property_refused faults.NoMemory = []

-- what is printed of what was answered where properties were to be set
abbrev pub IsRefused : PropertyFault → List ReportLine → Type 0
IsRefused faults.NoMemory report = ⊥
IsRefused why report = report ≡ property_refused why

abbrev pub IsToldOf : Result (Unit {0}) PropertyFault → List ReportLine → Type 0
IsToldOf (Ok done) report = report ≡ []
IsToldOf (Err why) report = IsRefused why report

abbrev pub IsTold : Result (Unit {0}) PropertyFault → Result (List ReportLine) LineFault → Type 0
IsTold set (Ok report) = IsToldOf set report
IsTold set (Err why) = why ≡ line_faults.NoMemory

abbrev pub set_unless : Option PropertyFault → World → Settings → Effect
set_unless (Some why) w after = says w (property_refused why)
set_unless None w after = says (with_settings w after) []

abbrev pub set_line : World → Level → Property → Turn
set_line w levels.Default p = goes (set_unless (refusal false (p ∷ [])) w (default_settings w.settings (p ∷ [])))
set_line w (levels.Type kind) p = goes (set_unless (refusal false (p ∷ [])) w (type_settings w.settings (kind_of kind) (p ∷ [])))

abbrev pub unset_line : World → Level → List ℕ → Turn
unset_line w levels.Default name = goes (set_unless (refusal_of_names (name ∷ [])) w (without_defaults w.settings (name ∷ [])))
unset_line w (levels.Type kind) name = goes (set_unless (refusal_of_names (name ∷ [])) w (without_type w.settings (kind_of kind) (name ∷ [])))

-- a group that was deleted has no levels
abbrev pub set_in : World → ScriptGroup → Property → Option Levels → Effect
set_in w g p None = says w (property_refused (faults.ObjectGroupNotFound g.id))
set_in w g p (Some levels) = set_unless (refusal true (p ∷ [])) w (group_settings w.settings g.id levels (p ∷ []))

abbrev pub set_group_found : World → Option (Placed ScriptGroup) → Property → Turn
set_group_found w None p = Refused line_faults.Unknown 0
set_group_found w (Some g) p = goes (set_in w g.value p (group_of w.settings.groups g.value.id.0))

abbrev pub set_group_line : World → List ℕ → Property → Turn
set_group_line w name p = set_group_found w (group_named w.groups name) p

-- ---- what is read: `get default P`, `get type KIND P`, `get group G P`

-- the property of a name, among all ten
abbrev pub property_line : Option Property → ReportLine
property_line None = reports.RefusedSetting (settings.InvalidProperty 0)
property_line (Some p) = reports.Property p.name p.value.0

unfoldable pub property_called : List ℕ → List Property → ReportLine
property_called name ps = property_line (find (λ p. bytes_eq p.name name) ps)

abbrev pub values_at : Settings → Level → List Property
values_at s levels.Default = all_effective (s.defaults ∷ [])
values_at s (levels.Type kind) = values_of_kind s (kind_of kind)

abbrev pub get_line : World → Level → List ℕ → Turn
get_line w level name = goes (says w (property_called name (values_at w.settings level) ∷ []))

abbrev pub got_of : List ℕ → Option Levels → ReportLine
got_of name None = reports.Refused ObjectGroupNotFound
got_of name (Some levels) = property_called name (all_effective (levels_of levels))

abbrev pub get_group_found : World → Option (Placed ScriptGroup) → List ℕ → Turn
get_group_found w None name = Refused line_faults.Unknown 0
get_group_found w (Some g) name = goes (says w (got_of name (group_of w.settings.groups g.value.id.0) ∷ []))

abbrev pub get_group_line : World → List ℕ → List ℕ → Turn
get_group_line w group name = get_group_found w (group_named w.groups group) name
