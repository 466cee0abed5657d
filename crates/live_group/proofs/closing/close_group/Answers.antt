use Rattle.std.proofs.Common.{subst, sym}
use Rattle.std.specs.Arc.{arc_value}
use Rattle.shared_group.specs.Turns.{IsWhole, SharedValue}
use Rattle.live_group.proofs.LastLook.{closes}
use Rattle.live_group.proofs.closing.close_group.Goals as goal

pub returns-in-Ok : goal.returns-in-Ok
returns-in-Ok g c =
    let machines = g.S.Servant.machine in
    let whole = subst (λ (v : SharedValue). IsWhole machines v.lock c.args.main c.close-book.result) c.unshared.ensures c.close-book.ensures in
    closes machines (arc_value c.args.group).lock c.args.main c.args.monitor c.last_look.new.monitor c.close-book.result c.last_look.new.book c.into_core.result
    whole c.requires.so_far c.in-Ok.ensures.looked c.in-Ok.ensures.kill (sym c.into_core.ensures)
