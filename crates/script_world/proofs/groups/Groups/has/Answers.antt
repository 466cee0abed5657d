use Rattle.std.proofs.Common.{◌∙◌}
use Rattle.std.specs.Str.{bytes_eq}
use Rattle.script_groups.specs.Groups.{ScriptGroup}
use Rattle.script_world.proofs.Places.{placed_any}
use Rattle.script_world.proofs.groups.Groups.has.Goals as goal

pub returns : goal.returns
returns c = c.is_some.ensures ∙ placed_any (λ (g : ScriptGroup). bytes_eq g.name c.args.name.now) c.args.self.now.items c.place.result c.place.ensures
