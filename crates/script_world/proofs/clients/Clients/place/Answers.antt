use Rattle.std.proofs.Common.{List, ℕ, Option, subst, sym}
use Rattle.std.specs.Str.{bytes_eq}
use Rattle.script_clients.specs.Clients.{Client}
use Rattle.script_groups.specs.Groups.{found}
use Rattle.script_world.specs.Names.{names_of}
use Rattle.script_world.specs.Worlds.{IsPlace}
use Rattle.script_world.proofs.Places.{placed_by_name}
use Rattle.script_world.proofs.clients.Clients.place.Goals as goal

pub returns : goal.returns
returns c =
    let items = c.self.inside.items.items in
    let name = c.args.name.now in
    subst (λ (cs : List Client). IsPlace (found (λ (x : Client). bytes_eq x.name name) 0 cs) cs c.place.result) c.self.view_is
    (subst (λ (o : Option ℕ). IsPlace (found (λ (x : Client). bytes_eq x.name name) 0 items) items o) (sym (c.place.ensures (names_of items) c.self.invariant))
    (placed_by_name (λ (x : Client). x.name) name items))
