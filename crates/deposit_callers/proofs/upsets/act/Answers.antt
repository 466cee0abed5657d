use Rattle.std.proofs.Common.{List, subst, sym}
use Rattle.group_model.specs.declared.events.Out.{Out}
use Rattle.deposit_callers.proofs.Going.{MayBring, bring_changed}
use Rattle.deposit_callers.proofs.upsets.act.Goals as goal

pub bring-requires-clause-may : goal.bring-requires-clause-may
bring-requires-clause-may g c =
    let machines = g.S.Servant.machine in
    let lock = c.args.group.now.lock in
    subst (λ (outs : List Out). MayBring machines lock c.event.new.pass outs) (sym c.into_vec.ensures)
    (bring_changed machines lock c.sent_may_be_brought.ensures c.args.pass.now c.event.new.pass c.args.event c.event.result c.in-Changed._view c.in-Changed.out c.event.ensures c.in-Changed.is)
