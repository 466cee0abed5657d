use Rattle.std.proofs.Common.{◌≤◌}
use Rattle.script_world.specs.Sound.{HasActed, IsKeptWorld}
use Rattle.world_links.proofs.scripts.played.Given as goal

-- so many lines were acted
abbrev pub invariant-loop-line : goal.invariant-loop-line
invariant-loop-line g l = record { kept : IsKeptWorld l.world; few : l.count ≤ 1000; acted : HasActed l.world l.count }
