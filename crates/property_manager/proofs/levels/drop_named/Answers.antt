use Rattle.std.proofs.Common.{rules, not}
use Rattle.std.proofs.lemmas.Fn.{filter_same}
use Rattle.property_manager.specs.declared.settings.Property.{Property}
use Rattle.property_manager.specs.Levels.{is_among}
use Rattle.property_manager.proofs.levels.drop_named.Goals as goal

pub returns : goal.returns
returns c = filter_same _ (λ (p : Property). not (is_among p.name c.args.names.now)) _ (λ x b f' k. search rules) _ _ c.retain.ensures.filtered
