use Rattle.std.proofs.Common.{◌≡◌, ◌≤◌, length, take}
use Rattle.std.specs.List.{filter}
use Rattle.world_management.specs.Membership.{has_object}
use Rattle.world_management.proofs.membership.objects_at.Given as goal

-- those of the groups so far
abbrev pub invariant-loop-place : goal.invariant-loop-place
invariant-loop-place l = record {
  counted : l.objects ≡ length (filter (has_object l.world l.host.0) (take l.place l.world.groups));
  within : l.place ≤ length l.world.groups;
}
