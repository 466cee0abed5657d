-- What a group's name or its number stands for: a group that was never made, one that was deleted, or one that is there.
use Rattle.std.specs.Prelude.{◌≡◌, ℕ, if◌then◌else◌, List, [], ◌∷◌, slice_get, Option, Some, None}
use Rattle.ft_base.specs.declared.numbers.HostNo.{HostNo}
use Rattle.ft_report.specs.declared.reports.ReportLine.{ReportLine}
use Rattle.ft_report.specs.declared.reports.ReportLine.TheVariants as reports
use Rattle.group_model.specs.declared.changes.ManageFault.TheVariants.{ObjectGroupNotFound}
use Rattle.script_groups.specs.Groups.{ScriptGroup, Placed, group_named, group_numbered, placed}
use Rattle.script_world.specs.World.{World, is_deleted, is_up}
use Rattle.world_turns.specs.declared.naming.Named.{Named}
use Rattle.world_turns.specs.declared.naming.Named.TheVariants as names
use Rattle.world_turns.specs.Turns.{Effect, says}

pub data Naming : Type 0 where
  NeverMade : Naming
  Deleted : Placed ScriptGroup → Naming
  There : Placed ScriptGroup → Naming

unfoldable pub naming_of : World → Option (Placed ScriptGroup) → Naming
naming_of w None = NeverMade
naming_of w (Some p) = if is_deleted w p.value then Deleted p else There p

abbrev pub group_called : World → List ℕ → Naming
group_called w name = naming_of w (group_named w.groups name)

abbrev pub group_with_number : World → ℕ → Naming
group_with_number w number = naming_of w (group_numbered w.groups number)

-- a group that is there
abbrev pub there_only : Naming → Option (Placed ScriptGroup)
there_only NeverMade = None
there_only (Deleted p) = None
there_only (There p) = Some p

-- a line about a group that was deleted is refused
abbrev pub gone : World → Effect
gone w = says w (reports.Refused ObjectGroupNotFound ∷ [])

-- a message comes to a host for a group that was deleted
abbrev pub late_line : World → ℕ → HostNo → ReportLine
late_line w k to = if is_up w to.0 then reports.IgnoredDeleted k else reports.Lost k

-- as code finds it: the place among all groups
abbrev pub IsNamed : Naming → List ScriptGroup → Named → Type 0
IsNamed wanted gs names.Never = wanted ≡ NeverMade
IsNamed wanted gs (names.Deleted i) = (g : ScriptGroup) × (wanted ≡ Deleted (placed i g)) × (slice_get gs i ≡ Some g)
IsNamed wanted gs (names.There i) = (g : ScriptGroup) × (wanted ≡ There (placed i g)) × (slice_get gs i ≡ Some g)
