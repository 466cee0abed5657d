use Rattle.std.proofs.Common.{ℕ, Option, subst, sym}
use Rattle.script_groups.specs.Groups.{ScriptGroup, group_named}
use Rattle.script_world.specs.Counting.{GroupList}
use Rattle.script_world.specs.Names.{group_names}
use Rattle.script_world.specs.Worlds.{IsPlace}
use Rattle.script_world.proofs.Places.{placed_by_name}
use Rattle.script_world.proofs.groups.Groups.place.Goals as goal

pub returns : goal.returns
returns c =
    let gs = c.self.inside.items.items in
    let name = c.args.name.now in
    subst (λ (v : GroupList). IsPlace (group_named v.items name) v.items c.place.result) c.self.view_is
    (subst (λ (o : Option ℕ). IsPlace (group_named gs name) gs o) (sym (c.place.ensures (group_names gs) c.self.invariant.1))
    (placed_by_name (λ (g : ScriptGroup). g.name) name gs))
