-- A client that is bound to a group's newest reference, and an attempt that gets no reply.
use Rattle.std.specs.Prelude.{ℕ, List, [], ◌∷◌, Option, Some, None}
use Rattle.fault_script.specs.declared.lines.LineFault.TheVariants.{Unknown}
use Rattle.ft_report.specs.declared.reports.ReportLine.TheVariants as reports
use Rattle.script_clients.specs.declared.answers.Call.{Call}
use Rattle.script_clients.specs.Clients.{Client, binding, failing}
use Rattle.script_groups.specs.Groups.{ScriptGroup, Placed}
use Rattle.script_groups.specs.References.{newest_reference}
use Rattle.script_world.specs.World.{World, client_named, with_client}
use Rattle.ft_world.specs.Clients.{does}
use Rattle.world_turns.specs.Naming.{Naming, NeverMade, Deleted, There, gone, group_called}
use Rattle.world_turns.specs.Turns.{Effect, Turn, Refused, goes, says}

-- ---- `bind C G`

abbrev pub bound : World → Placed Client → ScriptGroup → Effect
bound w c g =
    says (with_client w c.place (binding c.value (newest_reference g))) (reports.Bound c.value.name g.name (newest_reference g).version ∷ [])

-- a client with an open invocation is busy
abbrev pub bound_by : World → Placed Client → ScriptGroup → Option Call → Effect
bound_by w c g None = bound w c g
bound_by w c g (Some open_call) = says w (reports.Busy c.value.name ∷ [])

abbrev pub bind_to : World → Placed Client → Naming → Turn
bind_to w c NeverMade = Refused Unknown 0
bind_to w c (Deleted g) = goes (gone w)
bind_to w c (There g) = goes (bound_by w c g.value c.value.call)

abbrev pub bind_from : World → Option (Placed Client) → Naming → Turn
bind_from w None group = Refused Unknown 0
bind_from w (Some c) group = bind_to w c group

abbrev pub bind_line : World → List ℕ → List ℕ → Turn
bind_line w client group = bind_from w (client_named w client) (group_called w group)

-- ---- `timeout C`

-- a client without an open invocation is idle
abbrev pub timed_out : World → Placed Client → Effect
timed_out w c =
    let t = failing c.value (record { 0 = w.clock }) in
    does (with_client w c.place t.client) c.place c.value.name None (reports.Idle c.value.name ∷ []) t.told

abbrev pub timeout_from : World → Option (Placed Client) → Turn
timeout_from w None = Refused Unknown 0
timeout_from w (Some c) = goes (timed_out w c)

abbrev pub timeout_line : World → List ℕ → Turn
timeout_line w client = timeout_from w (client_named w client)
