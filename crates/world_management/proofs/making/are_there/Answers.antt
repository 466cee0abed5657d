use Rattle.std.proofs.Common.{sym, ◌∙◌}
use Rattle.ft_base.specs.declared.limits.TheConstants.{HOST_LIMIT}
use Rattle.world_management.proofs.MakingLemmas.{all_there}
use Rattle.world_management.proofs.making.are_there.Goals as goal

pub returns-clause-limit : goal.returns-clause-limit
returns-clause-limit c = λ all.
    all_there c.args.numbers.now c.host_count.result HOST_LIMIT c.host_count.ensures.limit (sym c.are_below.ensures ∙ all)
