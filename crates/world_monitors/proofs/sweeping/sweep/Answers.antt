use Rattle.std.proofs.Common.{◌<◌, ℕ, sym, subst, ◌∙◌}
use Rattle.std.specs.List.{AllByRecursion}
use Rattle.ft_base.specs.declared.limits.TheConstants.{HOST_LIMIT}
use Rattle.world_monitors.proofs.SweepingLemmas.{overdue_inside}
use Rattle.world_monitors.proofs.sweeping.sweep.Goals as goal

pub report_all-requires-clause-hosts : goal.report_all-requires-clause-hosts
report_all-requires-clause-hosts g c =
    subst (AllByRecursion (λ (host : ℕ). host < HOST_LIMIT)) (sym (c.as_slice.ensures.value ∙ c.in_ok-hosts.ensures c.group.result.now c.group.ensures))
    (overdue_inside c.args.world.now c.group.result.now c.is_sound.ensures)
