use Rattle.std.proofs.Common.{arith, ap, get_or, length, refl, sym, subst, ◌∙◌}
use Rattle.std.specs.Prelude.{slice_set}
use Rattle.script_groups.specs.Acting.{poisoned}
use Rattle.script_groups.specs.Groups.{ScriptGroup, acted}
use Rattle.script_world.specs.Worlds.{AreOrHave, power_event}
use Rattle.script_world.proofs.Loops.{at_hand, one_more, partly_at, same_count, written_back}
use Rattle.script_world.proofs.groups.power.Goals as goal

pub returns-in-Err-clause-partly : goal.returns-in-Err-clause-partly
returns-in-Err-clause-partly g c =
    let event = power_event c.args.up c.args.host in
    let old = c.args.groups.now.items in
    let ys = c.loop-group.group-items in
    let i = c.loop-group.group-index in
    let x = get_or ys i c.group-item.result in
    let new = c.power_one.new.group in
    let at = at_hand (λ (s : ScriptGroup). acted s event) old ys i x c.group-item.result c.loop-group.invariant.groups
    (omega (arith, c.loop-group-test.true, c.loop-group.auto.group-items)) refl in
    subst (AreOrHave old event)
    (sym (written_back old (slice_set ys i new) c.args.groups.now.len (omega (arith, c.deref_mut-group-items.ensures.len, ap length c.deref_mut-group-items.ensures.value)) (same_count ys i new ∙ c.loop-group.auto.group-items ∙ ap length c.deref_mut-group-items.ensures.value)))
    (subst (λ (z : ScriptGroup). AreOrHave old event (slice_set ys i z)) (sym c.in-Err.ensures.short)
    (subst (λ zs. AreOrHave old event (slice_set zs i (poisoned x))) (sym c.loop-group.invariant.groups) (partly_at old event i x at)))

pub loop-group-preserved : goal.loop-group-preserved
loop-group-preserved g c =
    let event = power_event c.args.up c.args.host in
    let f = λ (s : ScriptGroup). acted s event in
    let old = c.args.groups.now.items in
    let ys = c.loop-group.group-items in
    let i = c.loop-group.group-index in
    let x = get_or ys i c.group-item.result in
    record {
      groups = one_more f old ys i x c.power_one.new.group c.loop-group.invariant.groups
          (at_hand f old ys i x c.group-item.result c.loop-group.invariant.groups
          (omega (arith, c.loop-group-test.true, c.loop-group.auto.group-items)) refl) c.in-Ok.ensures.acted;
      steps = c.in-Ok.ensures.steps ∙ c.loop-group.invariant.steps;
    }
