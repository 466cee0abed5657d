use Rattle.std.proofs.Common.{◌<◌, ℕ, List, Some, arith, refl, sym, ap, subst, ◌∙◌}
use Rattle.std.specs.Prelude.{length, nat_eq, slice_index_or}
use Rattle.std.specs.List.{AllByRecursion, IsDistinct}
use Rattle.ft_base.specs.declared.limits.TheConstants.{HOST_LIMIT}
use Rattle.property_manager.specs.Hosts.{factories}
use Rattle.script_groups.specs.Lists.{all_get, all_push, got}
use Rattle.world_management.specs.Membership.{fits}
use Rattle.world_management.proofs.MembershipLemmas.{all_fit, is_new, no_room, none_fit, one_more, passed_over}
use Rattle.world_management.proofs.membership.first_fitting.Goals as goal
use Rattle.world_management.proofs.membership.first_fitting.Goals.{then-len-count+then-fits, else-len-count, else-len-count-via-then-len-count+else-fits, else-len-count-via-else-len-count}

pub returns-in_default-clause-value : goal.returns-in_default-clause-value
returns-in_default-clause-value c =
    c.new-chosen.ensures ∙ none_fit c.args.world.now c.args.members.now c.args.count (factories c.args.listed.now) (sym c.factories.ensures ∙ c.in_default.is)

pub join-requires-clause-new : goal.join-requires-clause-new
join-requires-clause-new c =
    let xs = c.hosts-host-items.result.now in
    let i = c.loop-host.host-index in
    is_new (fits c.args.world.now c.args.members.now) c.args.count xs i (slice_index_or xs i 0) c.loop-host.chosen
    (subst (IsDistinct nat_eq) (sym c.hosts-host-items.ensures.value) c.hosts-host-items.ensures.hosts.different)
    (omega (arith, c.loop-host-test.true, c.loop-host.auto.host-index-end)) refl c.loop-host.invariant.chosen

pub loop-host-preserved : goal.loop-host-preserved
loop-host-preserved c =
    let p = fits c.args.world.now c.args.members.now in
    let n = c.args.count in
    let xs = c.hosts-host-items.result.now in
    let i = c.loop-host.host-index in
    let x = slice_index_or xs i 0 in
    let chosen = c.loop-host.chosen in
    let so = c.loop-host.invariant in
    let inside : i < length xs = omega (arith, c.loop-host-test.true, c.loop-host.auto.host-index-end) in
    let all = subst (AllByRecursion (λ host. host < HOST_LIMIT)) (sym c.hosts-host-items.ensures.value) c.hosts-host-items.ensures.hosts.below in
    elim c.if-len-count.branch [
      | then-len-count+then-fits v ↦ record {
        chosen =
            v.chosen-is ∙ v.join.ensures
            ∙ one_more p n xs i x inside refl chosen so.chosen (omega (arith, v.if-len-count.true, c.len.ensures.count)) (sym v.fits.ensures ∙ v.if-fits.true);
        hosts =
            subst (AllByRecursion (λ host. host < HOST_LIMIT)) (sym (v.chosen-is ∙ v.join.ensures))
            (all_push (λ host. host < HOST_LIMIT) chosen x so.hosts (all_get (λ host. host < HOST_LIMIT) xs i x all (got xs i 0 inside)));
      }
      | else-len-count v ↦ elim v.else-len-count.branch [
        | else-len-count-via-then-len-count+else-fits u ↦ record {
          chosen = v.chosen-is ∙ passed_over p n xs i x inside refl chosen so.chosen (sym u.fits.ensures ∙ u.if-fits.false);
          hosts = subst (AllByRecursion (λ host. host < HOST_LIMIT)) (sym v.chosen-is) so.hosts;
        }
        | else-len-count-via-else-len-count u ↦ record {
          chosen = v.chosen-is ∙ no_room p n xs i x inside refl chosen so.chosen (omega (arith, u.if-len-count.false, c.len.ensures.count));
          hosts = subst (AllByRecursion (λ host. host < HOST_LIMIT)) (sym v.chosen-is) so.hosts;
        }
      ]
    ]

pub returns-clause-value : goal.returns-clause-value
returns-clause-value c =
    let xs = c.hosts-host-items.result.now in
    all_fit c.args.world.now c.args.members.now c.args.count (factories c.args.listed.now) xs c.loop-host.host-index c.loop-host.chosen
    (sym c.in-Some.ensures ∙ ap (λ (hosts : List ℕ). Some hosts) (sym c.hosts-host-items.ensures.value))
    (omega (arith, c.loop-host-test.false, c.loop-host.auto.host-index-end)) c.loop-host.invariant.chosen
