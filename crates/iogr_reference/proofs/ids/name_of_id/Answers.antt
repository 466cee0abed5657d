use Rattle.iogr_reference.proofs.IdLaws.{found_inside}
use Rattle.iogr_reference.proofs.ids.name_of_id.Goals as goal

pub returns : goal.returns
returns c =
    found_inside c.args.id.now c.in-Some.inside.now c.in_ok-found.found c.in-Some.ensures c.in_ok-found.ensures.named c.in_ok-found.ensures.other
