use Rattle.std.proofs.Common.{◌∙◌}
use Rattle.servant_store.proofs.MapLaws.{has_view}
use Rattle.servant_store.proofs.maps.has.Goals as goal

pub returns : goal.returns
returns c = c.contains_key.ensures ∙ has_view c.args.key.now c.args.map.now.entries
