use Rattle.ft_world.proofs.PortLemmas.{closed_served}
use Rattle.ft_world.proofs.links.serve.Goals as goal

pub returns-in-Ok-clause-served : goal.returns-in-Ok-clause-served
returns-in-Ok-clause-served g c =
    let p = c.args.pass.now in
    let q = c.session.new.pass in
    closed_served c.args.host.0 c.args.bytes p.world.now q.world.now p.steps.now q.steps.now p.short q.short q.printed.now.lines c.close.new.report c.in-Ok.end c.close.result
    c.requires.ready.whole c.in-Ok.ensures.whole c.in-Ok.ensures.served.over c.in-Ok.ensures.turns c.close.ensures
