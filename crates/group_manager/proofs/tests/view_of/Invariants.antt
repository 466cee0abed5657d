use Rattle.ft_base.specs.Members.{AreDifferent}
use Rattle.group_manager.proofs.tests.view_of.Given as goal

-- those so far differ
abbrev pub invariant-loop-host : goal.invariant-loop-host
invariant-loop-host l = AreDifferent l.members
