use Rattle.std.proofs.Common.{◌≡◌, ◌++◌, take}
use Rattle.property_manager.proofs.levels.push_copies.Given as goal

-- those so far
abbrev pub invariant-loop-property : goal.invariant-loop-property
invariant-loop-property l = l.list.items ≡ l.fn.list.items ++ take l.property-index l.properties
