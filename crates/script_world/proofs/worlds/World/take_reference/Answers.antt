use Rattle.std.proofs.Common.{◌≡◌, Some, sym, subst}
use Rattle.std.specs.Prelude.{IfOk, slice_get}
use Rattle.script_clients.specs.Clients.{taking}
use Rattle.script_world.specs.Standing.{world_of}
use Rattle.script_world.specs.World.{World, with_client}
use Rattle.script_world.proofs.ClientLemmas.{world_has}
use Rattle.script_world.proofs.worlds.World.take_reference.Goals as goal

pub returns : goal.returns
returns c = λ s at.
    let w = world_of c.self.inside in
    let there = subst (λ (v : World). slice_get v.clients c.args.place ≡ Some s) (sym c.self.view_is) at in
    subst (λ (v : World). IfOk c.take_reference.result (λ reference. (reference ≡ (taking s c.args.group).reference) × (record w { clients = c.take_reference.new.self } ≡ with_client v c.args.place (taking s c.args.group).client))) c.self.view_is
    (world_has w c.args.place (taking s c.args.group).client (λ reference. reference ≡ (taking s c.args.group).reference) c.take_reference.new.self c.take_reference.result (c.take_reference.ensures s there))
