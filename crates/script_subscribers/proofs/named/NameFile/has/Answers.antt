use Rattle.std.proofs.Common.{ap, ◌∙◌}
use Rattle.std.specs.Prelude.{is_some}
use Rattle.script_subscribers.proofs.Placing.{any_placed}
use Rattle.script_subscribers.proofs.named.NameFile.has.Goals as goal

pub returns : goal.returns
returns c = c.is_some.ensures ∙ ap is_some c.first_place.ensures.place ∙ any_placed c.args.name.now c.args.self.now.all
