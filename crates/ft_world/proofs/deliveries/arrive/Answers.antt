use Rattle.std.proofs.Common.{sym, subst}
use Rattle.std.specs.Prelude.{slice_get}
use Rattle.ft_world.specs.Delivering.{requested}
use Rattle.world_turns.specs.Answers.{Does}
use Rattle.world_turns.specs.Naming.{Naming}
use Rattle.ft_world.proofs.deliveries.arrive.Goals as goal

pub returns-in-Deleted : goal.returns-in-Deleted
returns-in-Deleted g c =
    let w = c.args.world.now in
    let found = c.in-Deleted.ensures in
    subst (λ (n : Naming). Does (requested w c.args.number c.args.arrival c.args.stop n (slice_get w.clients c.args.arrival.client)) c.arrive_late.result c.arrive_late.new.world c.args.steps.now c.args.steps.now)
    (sym found.1) (c.arrive_late.ensures found.0 c.args.stop c.args.steps.now found.2)
