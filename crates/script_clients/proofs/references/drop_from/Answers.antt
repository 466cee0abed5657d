use Rattle.std.proofs.Common.{rules, not}
use Rattle.std.proofs.lemmas.Fn.{filter_same}
use Rattle.iogr_reference.specs.declared.references.GroupRef.{GroupRef as AReference}
use Rattle.script_clients.specs.Clients.{is_of}
use Rattle.script_clients.proofs.Taking.{all_stay_around}
use Rattle.script_clients.proofs.references.drop_from.Goals as goal

pub returns-then-has_any_from-clause-items : goal.returns-then-has_any_from-clause-items
returns-then-has_any_from-clause-items c = filter_same _ (λ (r : AReference). not (is_of c.args.group r)) _ (λ x b f' k. search rules) _ _ c.retain.ensures.filtered

pub returns-else-has_any_from-clause-items : goal.returns-else-has_any_from-clause-items
returns-else-has_any_from-clause-items c = all_stay_around (λ (r : AReference). is_of c.args.group r) c.args.place c.args.references.now.items c.requires (search rules)
