use Rattle.passive_dispatch.specs.Served.{seen}
use Rattle.active_sequencer.proofs.Sends.{sequenced}
use Rattle.active_sequencer.proofs.sequencing.serve.Goals as goal

pub returns-in-Done-clause-served : goal.returns-in-Done-clause-served
returns-in-Done-clause-served g c = λ common h can.
    rw c.with_orders.ensures
    (sequenced c.logs_tell.ensures.tell g.S.Servant.machine common h c.args.arrival.host.0 c.args.version.0 c.args.arrival.clock.0 c.args.request c.args.arrival.stop
    c.in-Done.replied c.in-Ok.orders (seen c.args.log.now c.args.replica.now c.args.steps.now) (seen c.serve.new.log c.serve.new.replica c.serve.new.steps)
    can (c.in-Done.ensures.served common h can.can_serve) c.in-Ok.ensures)

pub returns-in-NoMemory-clause-served : goal.returns-in-NoMemory-clause-served
returns-in-NoMemory-clause-served g c = λ common h can. c.in-NoMemory.ensures.served common h can.can_serve
