-- `checkpoint G`: the group's log begins anew with a state, which in a warm group goes to the other members;
-- `update G`: what changed since goes to them; and `logfail G`: the log's next write fails.
use Rattle.std.specs.Prelude.{ℕ, ◌+◌, List, [], ◌∷◌, length, Option, Some, None}
use Rattle.ft_base.specs.declared.numbers.HostNo.{HostNo}
use Rattle.fault_script.specs.declared.lines.LineFault.TheVariants.{Unknown}
use Rattle.ft_report.specs.declared.reports.ReportLine.TheVariants as reports
use Rattle.group_model.specs.declared.events.Event.{Event}
use Rattle.group_model.specs.declared.events.Event.TheVariants as events
use Rattle.group_model.specs.declared.events.GroupAnswer.{GroupAnswer}
use Rattle.group_model.specs.declared.events.GroupAnswer.TheVariants as answers
use Rattle.script_groups.specs.Groups.{ScriptGroup, Placed, acted, common_of, turn}
use Rattle.script_groups.specs.Takers.{checkpoint_taker, update_taker}
use Rattle.script_world.specs.World.{World, host_clock, with_event, with_failing}
use Rattle.world_turns.specs.Naming.{Naming, NeverMade, Deleted, There, gone, group_called}
use Rattle.world_turns.specs.Sending.{all_sent, sent_lines}
use Rattle.world_turns.specs.Turns.{Effect, Turn, Refused, costing, goes, says}

-- ---- `checkpoint G`

-- by the clock of the host that takes it
abbrev pub checkpoint_event : World → HostNo → Event
checkpoint_event w host = events.Checkpoint host (record { 0 = host_clock w host.0 })

-- the position and the group's time are printed, and what is sent; or it couldn't be written, or the host is down
abbrev pub checkpointed : World → HostNo → ScriptGroup → GroupAnswer → Effect
checkpointed w host g (answers.Taken from position out) =
    says (all_sent w g.id out)
    (reports.Checkpoint g.name host position (record { 0 = (common_of g).time }) ∷ sent_lines (length w.messages + 1) g.name host out)
checkpointed w host g answers.LogFault = says w (reports.CheckpointFailed g.name ∷ [])
checkpointed w host g other = says w (reports.CheckpointNone g.name ∷ [])

abbrev pub checkpoint_by : World → Placed ScriptGroup → Option HostNo → Effect
checkpoint_by w g None = says w (reports.CheckpointNone g.value.name ∷ [])
checkpoint_by w g (Some host) =
    let e = checkpoint_event w host in
    costing (turn g.value e).calls (checkpointed (with_event w g.place g.value e) host (acted g.value e) (turn g.value e).answer)

abbrev pub checkpoint_of : World → Naming → Turn
checkpoint_of w NeverMade = Refused Unknown 0
checkpoint_of w (Deleted g) = goes (gone w)
checkpoint_of w (There g) = goes (checkpoint_by w g (checkpoint_taker g.value))

abbrev pub checkpoint_line : World → List ℕ → Turn
checkpoint_line w name = checkpoint_of w (group_called w name)

-- ---- `update G`

abbrev pub updated : World → HostNo → ScriptGroup → GroupAnswer → Effect
updated w host g (answers.Taken from position out) =
    says (all_sent w g.id out) (reports.Updated g.name host from position ∷ sent_lines (length w.messages + 1) g.name host out)
updated w host g other = says w (reports.UpdateNone g.name ∷ [])

abbrev pub update_by : World → Placed ScriptGroup → Option HostNo → Effect
update_by w g None = says w (reports.UpdateNone g.value.name ∷ [])
update_by w g (Some host) =
    let e = events.SendUpdate host in
    costing (turn g.value e).calls (updated (with_event w g.place g.value e) host (acted g.value e) (turn g.value e).answer)

abbrev pub update_of : World → Naming → Turn
update_of w NeverMade = Refused Unknown 0
update_of w (Deleted g) = goes (gone w)
update_of w (There g) = goes (update_by w g (update_taker g.value))

abbrev pub update_line : World → List ℕ → Turn
update_line w name = update_of w (group_called w name)

-- ---- `logfail G`

abbrev pub logfail_of : World → Naming → Turn
logfail_of w NeverMade = Refused Unknown 0
logfail_of w (Deleted g) = goes (gone w)
logfail_of w (There g) = goes (says (with_failing w g.place g.value) [])

abbrev pub logfail_line : World → List ℕ → Turn
logfail_line w name = logfail_of w (group_called w name)
