use Rattle.std.proofs.Common.{◌∙◌}
use Rattle.std.specs.Str.{bytes_eq}
use Rattle.script_clients.specs.Clients.{Client}
use Rattle.script_world.proofs.Places.{placed_any}
use Rattle.script_world.proofs.clients.Clients.has.Goals as goal

pub returns : goal.returns
returns c = c.is_some.ensures ∙ placed_any (λ (x : Client). bytes_eq x.name c.args.name.now) c.args.self.now c.place.result c.place.ensures
