use Rattle.std.proofs.Common.{◌≡◌, Some, sym, subst}
use Rattle.std.specs.Prelude.{IfOk, slice_get}
use Rattle.script_clients.specs.Clients.{failing}
use Rattle.script_world.specs.Standing.{world_of}
use Rattle.script_world.specs.World.{World, with_client}
use Rattle.script_world.proofs.ClientLemmas.{world_has}
use Rattle.script_world.proofs.worlds.World.fail_at.Goals as goal

pub returns : goal.returns
returns c = λ s at.
    let w = world_of c.self.inside in
    let there = subst (λ (v : World). slice_get v.clients c.args.place ≡ Some s) (sym c.self.view_is) at in
    subst (λ (v : World). IfOk c.fault.result (λ told. (told ≡ (failing s (record { 0 = v.clock })).told) × (record w { clients = c.fault.new.self } ≡ with_client v c.args.place (failing s (record { 0 = v.clock })).client))) c.self.view_is
    (world_has w c.args.place (failing s (record { 0 = w.clock })).client (λ told. told ≡ (failing s (record { 0 = w.clock })).told) c.fault.new.self c.fault.result (c.fault.ensures s there))
