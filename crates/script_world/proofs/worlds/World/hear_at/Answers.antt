use Rattle.std.proofs.Common.{◌≡◌, Some, sym, subst}
use Rattle.std.specs.Prelude.{IfOk, slice_get}
use Rattle.script_clients.specs.Clients.{hearing}
use Rattle.script_world.specs.Standing.{world_of}
use Rattle.script_world.specs.World.{World, with_client}
use Rattle.script_world.proofs.ClientLemmas.{world_has}
use Rattle.script_world.proofs.worlds.World.hear_at.Goals as goal

pub returns : goal.returns
returns c = λ s at.
    let w = world_of c.self.inside in
    let there = subst (λ (v : World). slice_get v.clients c.args.place ≡ Some s) (sym c.self.view_is) at in
    subst (λ (v : World). IfOk c.hear.result (λ told. (told ≡ (hearing s c.args.id c.args.heard (record { 0 = v.clock })).told) × (record w { clients = c.hear.new.self } ≡ with_client v c.args.place (hearing s c.args.id c.args.heard (record { 0 = v.clock })).client))) c.self.view_is
    (world_has w c.args.place (hearing s c.args.id c.args.heard (record { 0 = w.clock })).client (λ told. told ≡ (hearing s c.args.id c.args.heard (record { 0 = w.clock })).told) c.hear.new.self c.hear.result (c.hear.ensures s there))
