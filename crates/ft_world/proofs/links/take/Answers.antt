use Rattle.ft_world.specs.Passes.{lines_at, pass_at}
use Rattle.ft_world.proofs.PortLemmas.{meets_so, taken_so}
use Rattle.ft_world.proofs.links.take.Goals as goal

pub returns-in-Ok-clause-did : goal.returns-in-Ok-clause-did
returns-in-Ok-clause-did g c =
    let p = c.args.pass.now in
    let q = c.answer.new.pass in
    taken_so c.args.host.0 c.args.received (pass_at p.world.now p.steps.now p.short) (pass_at q.world.now q.steps.now q.short)
    (lines_at p.printed.now.lines p.printed.now.orders) (lines_at q.printed.now.lines q.printed.now.orders) c.in-Ok.bytes c.write.result c.write.new.printed.lines c.in-Ok.ensures.taken c.requires.ready.flat c.write.ensures.lines

pub returns-in-Ok-clause-met : goal.returns-in-Ok-clause-met
returns-in-Ok-clause-met g c =
    let p = c.args.pass.now in
    let q = c.answer.new.pass in
    meets_so c.args.host.0 c.args.received (pass_at p.world.now p.steps.now p.short) (pass_at q.world.now q.steps.now q.short)
    (lines_at p.printed.now.lines p.printed.now.orders) (lines_at q.printed.now.lines q.printed.now.orders) c.in-Ok.bytes c.write.result c.write.new.printed.lines c.in-Ok.ensures.taken c.requires.ready.flat c.write.ensures.lines
