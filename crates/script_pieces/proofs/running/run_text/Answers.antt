use Rattle.script_pieces.specs.Feeds.{trace}
use Rattle.script_pieces.specs.declared.feeding.FeedResult.TheVariants as feds
use Rattle.script_pieces.proofs.Texts.{text_ended, text_starved, text_stopped}
use Rattle.script_pieces.proofs.running.run_text.Goals as goal

pub returns-in-Err : goal.returns-in-Err
returns-in-Err g c =
    text_starved g.A.Actor.rules c.args.acts.now c.args.text.now
    (trace (g.B.Sink.holds c.args.out.now) (g.B.Sink.count c.args.out.now) c.args.steps.now)

pub returns-in-On : goal.returns-in-On
returns-in-On g c =
    text_ended g.A.Actor.rules c.args.acts.now c.feed_out.new.acts c.in-Ok.pieces c.feed_out.new.pieces c.args.text.now
    (trace (g.B.Sink.holds c.args.out.now) (g.B.Sink.count c.args.out.now) c.args.steps.now)
    (trace (g.B.Sink.holds c.feed_out.new.out) (g.B.Sink.count c.feed_out.new.out) c.feed_out.new.steps)
    (trace (g.B.Sink.holds c.finish_out.new.out) (g.B.Sink.count c.finish_out.new.out) c.finish_out.new.steps)
    c.finish_out.result c.in-Ok.ensures c.in-On.ensures.fed c.finish_out.ensures

pub returns-in-Refused : goal.returns-in-Refused
returns-in-Refused g c =
    text_stopped g.A.Actor.rules c.args.acts.now c.feed_out.new.acts c.in-Ok.pieces c.feed_out.new.pieces c.args.text.now
    (trace (g.B.Sink.holds c.args.out.now) (g.B.Sink.count c.args.out.now) c.args.steps.now)
    (trace (g.B.Sink.holds c.feed_out.new.out) (g.B.Sink.count c.feed_out.new.out) c.feed_out.new.steps)
    (feds.Refused c.in-Refused.number c.in-Refused.why) c.in-Ok.ensures c.in-Refused.ensures.fed

pub returns-in-WriteFailed : goal.returns-in-WriteFailed
returns-in-WriteFailed g c =
    text_stopped g.A.Actor.rules c.args.acts.now c.feed_out.new.acts c.in-Ok.pieces c.feed_out.new.pieces c.args.text.now
    (trace (g.B.Sink.holds c.args.out.now) (g.B.Sink.count c.args.out.now) c.args.steps.now)
    (trace (g.B.Sink.holds c.feed_out.new.out) (g.B.Sink.count c.feed_out.new.out) c.feed_out.new.steps)
    feds.WriteFailed c.in-Ok.ensures c.in-WriteFailed.ensures.fed

pub returns : goal.returns
returns g c =
    text_stopped g.A.Actor.rules c.args.acts.now c.feed_out.new.acts c.in-Ok.pieces c.feed_out.new.pieces c.args.text.now
    (trace (g.B.Sink.holds c.args.out.now) (g.B.Sink.count c.args.out.now) c.args.steps.now)
    (trace (g.B.Sink.holds c.feed_out.new.out) (g.B.Sink.count c.feed_out.new.out) c.feed_out.new.steps)
    feds.NoMemory c.in-Ok.ensures c.in-NoMemory.ensures.fed
