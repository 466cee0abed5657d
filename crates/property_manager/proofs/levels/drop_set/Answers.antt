use Rattle.std.proofs.Common.{rules, not}
use Rattle.std.proofs.lemmas.Fn.{filter_same}
use Rattle.property_manager.specs.declared.settings.Property.{Property}
use Rattle.property_manager.specs.Levels.{has_name}
use Rattle.property_manager.proofs.levels.drop_set.Goals as goal

pub returns : goal.returns
returns c = filter_same _ (λ (p : Property). not (has_name p.name c.args.properties.now)) _ (λ x b f' k. search rules) _ _ c.retain.ensures.filtered
