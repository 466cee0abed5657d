use Rattle.std.proofs.Common.{◌≡◌, List, [], ◌∷◌, ◌++◌, Some, sym, rules, inl, inr, ◌∙◌, ap}
use Rattle.property_manager.specs.declared.settings.Property.{Property}
use Rattle.fault_script.specs.Properties.{criterion}
use Rattle.fault_script.proofs.EachLemmas.{each-more, each-stop}
use Rattle.fault_script.proofs.criteria.read_criteria.Goals as goal

pub returns-in-Err : goal.returns-in-Err
returns-in-Err c =
    elim c.in-Err.ensures [
      | inl memory ↦ inl memory
      | inr refused ↦ inr (refused.0, each-stop criterion c.args.words.now c.loop-word.word-index _ c.loop-word-test.true refused.1)
    ]

pub loop-word-preserved : goal.loop-word-preserved
loop-word-preserved c =
    let pushed : c.push.new.self.items ≡ c.loop-word.properties.items ++ c.in-Ok.property ∷ [] = search rules in
    each-more criterion c.args.words.now c.loop-word.word-index _ c.loop-word.properties.items c.in-Ok.property c.loop-word-test.true c.loop-word.invariant c.in-Ok.ensures
    ∙ ap (λ (properties : List Property). Some properties) (sym pushed)
