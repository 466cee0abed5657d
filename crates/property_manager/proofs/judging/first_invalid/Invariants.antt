use Rattle.std.proofs.Common.{◌≡◌, [], take, drop}
use Rattle.property_manager.specs.Judging.{first_place, is_invalid}
use Rattle.property_manager.proofs.judging.first_invalid.Given as goal

-- none so far is at fault
abbrev pub invariant-loop-place : goal.invariant-loop-place
invariant-loop-place l = first_place is_invalid [] l.fn.properties ≡ first_place is_invalid (take l.place l.fn.properties) (drop l.place l.fn.properties)
