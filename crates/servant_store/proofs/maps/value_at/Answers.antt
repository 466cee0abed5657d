use Rattle.std.proofs.Common.{◌∙◌}
use Rattle.servant_store.proofs.MapLaws.{copied_items, find_view}
use Rattle.servant_store.proofs.maps.value_at.Goals as goal

pub returns : goal.returns
returns c = copied_items c.get.result ∙ find_view c.args.key.now c.args.map.now.entries _ c.get.ensures.value
