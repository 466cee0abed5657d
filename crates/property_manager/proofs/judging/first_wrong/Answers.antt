use Rattle.std.proofs.Common.{◌∙◌, sym, ap}
use Rattle.property_manager.specs.Judging.{is_wrong}
use Rattle.property_manager.proofs.PlaceLemmas.{passed}
use Rattle.property_manager.proofs.judging.first_wrong.Goals as goal

pub loop-place-preserved : goal.loop-place-preserved
loop-place-preserved c =
    passed is_wrong c.args.names.now c.loop-place.place c.name_at.result.now c.name_at.ensures c.loop-place.invariant
    (sym (c.if-is_wrong.ensures ∙ ap (λ before. is_wrong before c.name_at.result.now) c.names_before.ensures))
