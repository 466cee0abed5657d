use Rattle.std.proofs.Common.{◌∙◌}
use Rattle.name_places.proofs.PlaceLemmas.{lookup_filed}
use Rattle.name_places.proofs.names.place_of.Goals as goal

pub returns : goal.returns
returns c = λ names are.
    c.copied.ensures ∙ c.get.ensures.value ∙ lookup_filed c.args.name.now c.args.rows.now.entries ∙ are c.args.name.now
