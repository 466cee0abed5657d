use Rattle.std.proofs.Common.{◌≡◌, [], length}
use Rattle.std.specs.List.{slice_split}
use Rattle.property_manager.specs.Hosts.{hosts_from, is_comma}
use Rattle.property_manager.proofs.host_lists.hosts_in.Given as goal

-- the hosts so far, and those that are still to be read
abbrev pub invariant-loop-place : goal.invariant-loop-place
invariant-loop-place l = hosts_from [] (slice_split is_comma l.fn.text) ≡ hosts_from l.hosts (slice_split is_comma l.rest)

abbrev pub decreases-loop-place : goal.decreases-loop-place
decreases-loop-place l = length l.rest
