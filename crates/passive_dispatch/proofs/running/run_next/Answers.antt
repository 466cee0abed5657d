use Rattle.passive_dispatch.proofs.Serves.{next_run}
use Rattle.passive_dispatch.proofs.running.run_next.Goals as goal

pub returns-in-Ok-copy-clause-run : goal.returns-in-Ok-copy-clause-run
returns-in-Ok-copy-clause-run g c = λ common place can.
    next_run c.entries_run.ensures g.S.Servant.machine common place c.args.log.now c.set_reply.new.self c.args.replica.now c.apply.new.self
    c.position-position.result c.in-Some.request.now c.in-Ok.outcome c.in-Ok-copy.told
    c.position-position.ensures c.in-Some.ensures c.in-Ok.ensures.outcome c.in-Ok-copy.ensures c.set_reply.ensures c.in-Ok.ensures.ran can
