use Rattle.script_pieces.proofs.Feedings.{done_unwritten, done_starved}
use Rattle.script_pieces.proofs.feeding.Pieces.finish.Goals as goal

pub returns : goal.returns
returns g c =
    done_unwritten g.A.Actor.rules c.args.acts.now c.act.new.self c.args.self.now c.in-Goes.printed c.bytes.result.now
    (g.B.Sink.holds c.args.out.now) (g.B.Sink.holds c.write_all.new.sink) (g.B.Sink.count c.args.out.now) (g.B.Sink.count c.write_all.new.sink)
    c.args.steps.now c.act.new.steps (cc) (rw c.begun.ensures at c.in-Goes.ensures.acted) c.bytes.ensures c.in-Failed.ensures

pub returns-in-NoMemory : goal.returns-in-NoMemory
returns-in-NoMemory g c =
    done_starved g.A.Actor.rules c.args.acts.now c.act.new.self c.args.self.now (g.B.Sink.holds c.args.out.now) (g.B.Sink.count c.args.out.now)
    c.args.steps.now c.act.new.steps (cc) (rw c.begun.ensures at c.in-NoMemory.ensures.acted)
