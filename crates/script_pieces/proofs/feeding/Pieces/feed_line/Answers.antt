use Rattle.std.proofs.Common.{◌∙◌, refl}
use Rattle.script_pieces.specs.Feeds.{trace}
use Rattle.script_pieces.proofs.Feedings.{fed_past, fed_stops, fed_starved, fed_writes, fed_unwritten, next_same}
use Rattle.script_pieces.proofs.feeding.Pieces.feed_line.Goals as goal

pub returns-then-is_past-clause-fed : goal.returns-then-is_past-clause-fed
returns-then-is_past-clause-fed g c =
    fed_past g.A.Actor.rules c.args.acts.now c.args.self.now c.args.self.now c.args.text.now (trace (g.B.Sink.holds c.args.out.now) (g.B.Sink.count c.args.out.now) c.args.steps.now)
    c.number.result c.past.result c.requires.line (cc) c.number.ensures c.past.ensures

pub returns-in-NoMemory-clause-fed : goal.returns-in-NoMemory-clause-fed
returns-in-NoMemory-clause-fed g c =
    fed_starved g.A.Actor.rules c.args.acts.now c.act.new.acts c.args.self.now c.act.new.self c.args.text.now
    (g.B.Sink.holds c.args.out.now) (g.B.Sink.count c.args.out.now) c.args.steps.now c.act.new.steps c.requires.line (cc) c.in-NoMemory.ensures.acted

pub returns-in-Stops-clause-fed : goal.returns-in-Stops-clause-fed
returns-in-Stops-clause-fed g c =
    fed_stops g.A.Actor.rules c.args.acts.now c.act.new.acts c.args.self.now c.act.new.self c.args.text.now
    (g.B.Sink.holds c.args.out.now) (g.B.Sink.count c.args.out.now) c.args.steps.now c.act.new.steps c.number-in-Stops.result c.in-Stops.why
    c.requires.line (cc) (c.number-in-Stops.ensures ∙ c.in-Stops.ensures.number) c.in-Stops.ensures.acted

pub returns-in-All-clause-fed : goal.returns-in-All-clause-fed
returns-in-All-clause-fed g c =
    fed_writes g.A.Actor.rules c.args.acts.now c.act.new.acts c.args.self.now c.end_line.new.self c.args.text.now c.in-Goes.printed c.bytes.result.now
    (g.B.Sink.holds c.args.out.now) (g.B.Sink.holds c.write_all.new.sink) (g.B.Sink.count c.args.out.now) (g.B.Sink.count c.write_all.new.sink)
    c.args.steps.now c.act.new.steps c.requires.line (cc)
    (next_same c.args.self.now c.act.new.self c.end_line.new.self _ _ c.end_line.ensures refl c.in-Goes.ensures.number c.in-Goes.ensures.read)
    c.in-Goes.ensures.acted c.bytes.ensures c.in-All.ensures

pub returns-clause-fed : goal.returns-clause-fed
returns-clause-fed g c =
    fed_unwritten g.A.Actor.rules c.args.acts.now c.act.new.acts c.args.self.now c.end_line.new.self c.args.text.now c.in-Goes.printed c.bytes.result.now
    (g.B.Sink.holds c.args.out.now) (g.B.Sink.holds c.write_all.new.sink) (g.B.Sink.count c.args.out.now) (g.B.Sink.count c.write_all.new.sink)
    c.args.steps.now c.act.new.steps c.requires.line (cc)
    c.in-Goes.ensures.acted c.bytes.ensures c.in-Failed.ensures
