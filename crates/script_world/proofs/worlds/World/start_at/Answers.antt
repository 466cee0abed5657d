use Rattle.std.proofs.Common.{◌≡◌, Some, sym, subst}
use Rattle.std.specs.Prelude.{IfOk, slice_get}
use Rattle.script_world.specs.Standing.{world_of}
use Rattle.script_world.specs.World.{World, with_client}
use Rattle.script_world.specs.Worlds.{begin}
use Rattle.script_world.proofs.ClientLemmas.{world_has}
use Rattle.script_world.proofs.worlds.World.start_at.Goals as goal

pub returns : goal.returns
returns c = λ s at.
    let w = world_of c.self.inside in
    let there = subst (λ (v : World). slice_get v.clients c.args.place ≡ Some s) (sym c.self.view_is) at in
    subst (λ (v : World). IfOk c.start.result (λ told. (told ≡ (begin s c.args.begun).told) × (record w { clients = c.start.new.self } ≡ with_client v c.args.place (begin s c.args.begun).client))) c.self.view_is
    (world_has w c.args.place (begin s c.args.begun).client (λ told. told ≡ (begin s c.args.begun).told) c.start.new.self c.start.result (c.start.ensures s there))
