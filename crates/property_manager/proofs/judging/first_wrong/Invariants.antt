use Rattle.std.proofs.Common.{◌≡◌, [], take, drop}
use Rattle.property_manager.specs.Judging.{first_place, is_wrong}
use Rattle.property_manager.proofs.judging.first_wrong.Given as goal

-- none so far is at fault
abbrev pub invariant-loop-place : goal.invariant-loop-place
invariant-loop-place l = first_place is_wrong [] l.fn.names ≡ first_place is_wrong (take l.place l.fn.names) (drop l.place l.fn.names)
