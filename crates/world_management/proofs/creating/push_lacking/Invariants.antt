use Rattle.std.proofs.Common.{◌≡◌, ◌++◌, take}
use Rattle.world_management.specs.Creating.{lacking}
use Rattle.world_management.proofs.creating.push_lacking.Given as goal

-- those so far
abbrev pub invariant-loop-property : goal.invariant-loop-property
invariant-loop-property l = l.list.items ≡ l.fn.list.items ++ lacking l.criteria (take l.property-index l.properties)
