use Rattle.std.proofs.Common.{ap}
use Rattle.name_places.specs.Places.{Places}
use Rattle.script_world.proofs.clients.Clients.add.Goals as goal

pub add_reserved-requires : goal.add_reserved-requires
add_reserved-requires c = (c.name.result.now, ap (λ (p : Places). p.next) c.in_ok-reserve-2.ensures.ready)
