use Rattle.std.proofs.Common.{◌≡◌, take}
use Rattle.group_model.specs.Views.{without}
use Rattle.group_manager.proofs.members.without.Given as goal

-- the members so far, but this one
abbrev pub invariant-loop-member : goal.invariant-loop-member
invariant-loop-member l = l.kept ≡ without l.host.0 (take l.member-index l.member-items)
