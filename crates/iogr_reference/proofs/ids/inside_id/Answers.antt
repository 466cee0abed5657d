use Rattle.iogr_reference.proofs.IdLaws.{not_begun}
use Rattle.iogr_reference.proofs.ids.inside_id.Goals as goal

pub returns-in-None-behind_front : goal.returns-in-None-behind_front
returns-in-None-behind_front c = not_begun c.args.id.now c.in-Some.front.now c.in-Some.ensures c.in-None-behind_front.ensures
