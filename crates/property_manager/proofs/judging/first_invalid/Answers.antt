use Rattle.std.proofs.Common.{◌∙◌, sym, ap}
use Rattle.property_manager.specs.Judging.{is_invalid}
use Rattle.property_manager.proofs.PlaceLemmas.{passed}
use Rattle.property_manager.proofs.judging.first_invalid.Goals as goal

pub loop-place-preserved : goal.loop-place-preserved
loop-place-preserved c =
    passed is_invalid c.args.properties.now c.loop-place.place c.property_at.result.now c.property_at.ensures c.loop-place.invariant
    (sym (c.if-is_invalid.ensures ∙ ap (λ before. is_invalid before c.property_at.result.now) c.properties_before-before.ensures))
