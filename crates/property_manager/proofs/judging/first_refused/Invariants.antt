use Rattle.std.proofs.Common.{◌≡◌, [], take, drop}
use Rattle.property_manager.specs.Judging.{first_place, is_refused}
use Rattle.property_manager.proofs.judging.first_refused.Given as goal

-- none so far is refused
abbrev pub invariant-loop-place : goal.invariant-loop-place
invariant-loop-place l =
    first_place (is_refused l.fn.runs) [] l.fn.properties ≡ first_place (is_refused l.fn.runs) (take l.place l.fn.properties) (drop l.place l.fn.properties)
