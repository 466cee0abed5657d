use Rattle.std.proofs.Common.{◌≡◌, ◌∙◌, ◌∷◌, [], List, ap, take, length, arith}
use Rattle.std.specs.Prelude.{map}
use Rattle.property_manager.specs.declared.names.PropertyName.{PropertyName}
use Rattle.property_manager.specs.Levels.{effective, valued}
use Rattle.property_manager.specs.Names.{all}
use Rattle.property_manager.proofs.EffectiveLemmas.{all_valued, whole}
use Rattle.property_manager.proofs.effective.all_effective.Goals as goal

pub returns : goal.returns
returns c =
    let levels = c.args.defaults.now ∷ c.args.by_type.now ∷ c.args.criteria.now ∷ c.args.dynamic.now ∷ [] in
    let names : c.as_slice-name-items.result.now ≡ all = c.as_slice-name-items.ensures ∙ c.all-names.ensures in
    let items = whole c.as_slice-name-items.result.now c.loop-name.name-index (omega arith) ∙ names in
    c.from_vec.ensures ∙ c.loop-name.invariant
    ∙ ap (λ (ns : List PropertyName). map (λ name. valued name (effective levels name)) ns) items
    ∙ all_valued levels
