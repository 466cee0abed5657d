use Rattle.std.proofs.Common.{List, ◌∷◌, subst}
use Rattle.group_model.specs.declared.events.Out.{Out}
use Rattle.deposit_callers.proofs.Going.{MayBring, bring_on}
use Rattle.deposit_callers.proofs.upsets.bring.Goals as goal

pub loop-sent-preserved : goal.loop-sent-preserved
loop-sent-preserved g c =
    let machines = g.S.Servant.machine in
    let lock = c.args.group.now.lock in
    let pass = c.loop-sent.pass in
    let rest = c.next.new.self.rest.items in
    let may : MayBring machines lock pass (c.in-Some.sent ∷ rest) = subst (λ (outs : List Out). MayBring machines lock pass outs) c.in-Some.ensures.steps.0 c.loop-sent.invariant.1 in
    (c.event.ensures.own, bring_on machines lock c.calls_stay_possible.ensures pass c.event.new.pass _ _ c.event.ensures rest may.1)
