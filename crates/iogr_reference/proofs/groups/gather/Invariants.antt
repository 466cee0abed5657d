use Rattle.std.proofs.Common.{◌≡◌, drop, length}
use Rattle.iogr_reference.specs.Groups.{iiops_of}
use Rattle.iogr_reference.proofs.GroupLemmas.{with_marked}
use Rattle.iogr_reference.proofs.groups.gather.Given as goal

-- the IIOP profiles so far, in front of those that are left
abbrev pub invariant-loop-one : goal.invariant-loop-one
invariant-loop-one l = record {
  read : with_marked l.iiops.items l.marks.items (iiops_of (drop l.one-index l.profiles)) ≡ iiops_of l.profiles;
  beside : length l.iiops.items ≡ length l.marks.items;
}
