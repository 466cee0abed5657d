use Rattle.std.proofs.Common.{◌≡◌, Some, sym, subst}
use Rattle.std.specs.Prelude.{OnOk, slice_get}
use Rattle.script_clients.specs.Clients.{binding}
use Rattle.script_world.specs.Standing.{world_of}
use Rattle.script_world.specs.World.{World, with_client}
use Rattle.script_world.proofs.ClientLemmas.{world_is}
use Rattle.script_world.proofs.worlds.World.bind_at.Goals as goal

pub returns : goal.returns
returns c = λ s at.
    let w = world_of c.self.inside in
    let there = subst (λ (v : World). slice_get v.clients c.args.place ≡ Some s) (sym c.self.view_is) at in
    subst (λ (v : World). OnOk c.bind.result (record w { clients = c.bind.new.self } ≡ with_client v c.args.place (binding s c.args.reference))) c.self.view_is
    (world_is w c.args.place (binding s c.args.reference) c.bind.new.self c.bind.result (c.bind.ensures s there))
