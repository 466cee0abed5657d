use Rattle.std.proofs.Common.{◌≡◌, Some, drop}
use Rattle.std.specs.Prelude.{slice_get}
use Rattle.script_groups.specs.Groups.{ScriptGroup, placed}
use Rattle.script_world.specs.Sound.{IsKeptWorld}
use Rattle.world_monitors.proofs.SweepingLemmas.{IsSwept}
use Rattle.world_monitors.proofs.sweeping.report_all.Given as goal

-- those so far were reported
abbrev pub invariant-loop-host : goal.invariant-loop-host
invariant-loop-host g l = record {
  kept : IsKeptWorld l.world;
  swept : (s : ScriptGroup) → slice_get l.fn.world.groups l.place ≡ Some s →
      IsSwept l.fn.world (placed l.place s) l.hosts (drop l.host-index l.hosts) l.world l.report l.fn.steps l.steps;
}
