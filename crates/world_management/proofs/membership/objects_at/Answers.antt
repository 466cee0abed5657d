use Rattle.std.proofs.Common.{◌<◌, ℕ, ◌+◌, arith, Bool, ap, subst, sym, ◌∙◌}
use Rattle.std.specs.Prelude.{if◌then◌else◌}
use Rattle.world_management.specs.Membership.{has_object}
use Rattle.world_management.proofs.CreatingLemmas.{counted_next, few_so_far}
use Rattle.script_groups.specs.Lists.{some_at}
use Rattle.world_management.proofs.membership.objects_at.Goals as goal
use Rattle.world_management.proofs.membership.objects_at.Goals.{then-has_object, else-has_object}

pub overflow_add-objects : goal.overflow_add-objects
overflow_add-objects c =
    let few = few_so_far (has_object c.args.world.now c.args.host.0) c.args.world.now.groups c.loop-place.place c.loop-place.objects c.loop-place.invariant.counted in
    omega (arith, few, c.loop-place-test.true, c.group_count-place-end.ensures.limit)

pub loop-place-preserved : goal.loop-place-preserved
loop-place-preserved c =
    let w = c.args.world.now in
    let inside = subst (λ (n : ℕ). c.loop-place.place < n) c.group_count-place-end.ensures.count c.loop-place-test.true in
    let at = some_at w.groups c.loop-place.place inside in
    let n = c.loop-place.objects in
    record {
      counted = counted_next (has_object w c.args.host.0) w.groups c.loop-place.place at.0 c.has_object.result n c.if-has_object.objects at.1 (c.has_object.ensures at.0 at.1) c.loop-place.invariant.counted
          (elim c.if-has_object.branch [
            | then-has_object v ↦ v.objects-is ∙ ap (λ (b : Bool). if b then n + 1 else n) (sym v.if-has_object.true)
            | else-has_object v ↦ v.objects-is ∙ ap (λ (b : Bool). if b then n + 1 else n) (sym v.if-has_object.false)
          ]);
      within = omega (arith, inside);
    }
