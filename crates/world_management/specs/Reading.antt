-- Lines that only read a group.
use Rattle.std.specs.Prelude.{ℕ, List, [], ◌∷◌}
use Rattle.fault_script.specs.declared.lines.LineFault.TheVariants.{Unknown}
use Rattle.ft_report.specs.declared.reports.ReportLine.{ReportLine}
use Rattle.group_model.specs.Views.{host_no}
use Rattle.script_groups.specs.Groups.{ScriptGroup}
use Rattle.script_groups.specs.Reading.{identified, located, member_referred, referred}
use Rattle.script_world.specs.World.{World}
use Rattle.world_management.specs.Hosts.{on_host}
use Rattle.world_turns.specs.Naming.{Naming, NeverMade, Deleted, There, gone, group_called}
use Rattle.world_turns.specs.Turns.{Turn, Refused, goes, says}

-- what a line reads of the group that it names
abbrev pub reads : World → (ScriptGroup → ReportLine) → Naming → Turn
reads w line NeverMade = Refused Unknown 0
reads w line (Deleted g) = goes (gone w)
reads w line (There g) = goes (says w (line g.value ∷ []))

-- `locations G`
abbrev pub locations_line : World → List ℕ → Turn
locations_line w name = reads w located (group_called w name)

-- `id G`
abbrev pub id_line : World → List ℕ → Turn
id_line w name = reads w identified (group_called w name)

-- `ref G`
abbrev pub ref_line : World → List ℕ → Turn
ref_line w name = reads w referred (group_called w name)

-- `member G H`
abbrev pub member_of : World → Naming → ℕ → Turn
member_of w NeverMade host = Refused Unknown 0
member_of w (Deleted g) host = on_host w host (gone w)
member_of w (There g) host = on_host w host (says w (member_referred g.value (host_no host) ∷ []))

abbrev pub member_line : World → List ℕ → ℕ → Turn
member_line w name host = member_of w (group_called w name) host
