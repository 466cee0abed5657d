use Rattle.std.proofs.Common.{◌∷◌, [], ◌++◌, ◌∙◌, sym, append_assoc}
use Rattle.script_pieces.specs.Feeds.{point, trace}
use Rattle.script_pieces.specs.declared.feeding.FeedResult.TheVariants as feds
use Rattle.script_pieces.proofs.Resumes.{append_none}
use Rattle.script_pieces.proofs.Feedings.{fed_on, fed_none}
use Rattle.script_pieces.proofs.feeding.Pieces.feed.Goals as goal

pub lines-init : goal.lines-init
lines-init g c = (
  fed_none g.A.Actor.rules (point c.args.acts.now c.args.self.now c.args.piece.now) (trace (g.B.Sink.holds c.args.out.now) (g.B.Sink.count c.args.out.now) c.args.steps.now),
  c.requires,
)

pub lines-preserved : goal.lines-preserved
lines-preserved g c = (
  fed_on g.A.Actor.rules (point c.args.acts.now c.args.self.now c.args.piece.now)
      c.lines.acts c.feed_line.new.acts c.lines.self c.feed_line.new.self c.lines.rest.now (c.in-Some.text.now ++ 10 ∷ []) c.in-Some.behind.now
      (trace (g.B.Sink.holds c.args.out.now) (g.B.Sink.count c.args.out.now) c.args.steps.now)
      (trace (g.B.Sink.holds c.lines.out) (g.B.Sink.count c.lines.out) c.lines.steps)
      (trace (g.B.Sink.holds c.feed_line.new.out) (g.B.Sink.count c.feed_line.new.out) c.feed_line.new.steps)
      feds.On c.lines.invariant.0 (c.in-Some.ensures.1 ∙ sym (append_assoc c.in-Some.text.now (10 ∷ []) c.in-Some.behind.now)) c.in-On.ensures.fed,
  c.in-On.ensures.next,
)

pub returns-in-Refused-clause-fed : goal.returns-in-Refused-clause-fed
returns-in-Refused-clause-fed g c =
    fed_on g.A.Actor.rules (point c.args.acts.now c.args.self.now c.args.piece.now)
    c.lines.acts c.feed_line.new.acts c.lines.self c.feed_line.new.self c.lines.rest.now (c.in-Some.text.now ++ 10 ∷ []) c.in-Some.behind.now
    (trace (g.B.Sink.holds c.args.out.now) (g.B.Sink.count c.args.out.now) c.args.steps.now)
    (trace (g.B.Sink.holds c.lines.out) (g.B.Sink.count c.lines.out) c.lines.steps)
    (trace (g.B.Sink.holds c.feed_line.new.out) (g.B.Sink.count c.feed_line.new.out) c.feed_line.new.steps)
    (feds.Refused c.in-Refused.number c.in-Refused.why) c.lines.invariant.0 (c.in-Some.ensures.1 ∙ sym (append_assoc c.in-Some.text.now (10 ∷ []) c.in-Some.behind.now)) c.in-Refused.ensures.fed

pub returns-in-WriteFailed-clause-fed : goal.returns-in-WriteFailed-clause-fed
returns-in-WriteFailed-clause-fed g c =
    fed_on g.A.Actor.rules (point c.args.acts.now c.args.self.now c.args.piece.now)
    c.lines.acts c.feed_line.new.acts c.lines.self c.feed_line.new.self c.lines.rest.now (c.in-Some.text.now ++ 10 ∷ []) c.in-Some.behind.now
    (trace (g.B.Sink.holds c.args.out.now) (g.B.Sink.count c.args.out.now) c.args.steps.now)
    (trace (g.B.Sink.holds c.lines.out) (g.B.Sink.count c.lines.out) c.lines.steps)
    (trace (g.B.Sink.holds c.feed_line.new.out) (g.B.Sink.count c.feed_line.new.out) c.feed_line.new.steps)
    feds.WriteFailed c.lines.invariant.0 (c.in-Some.ensures.1 ∙ sym (append_assoc c.in-Some.text.now (10 ∷ []) c.in-Some.behind.now)) c.in-WriteFailed.ensures.fed

pub returns-in-NoMemory-clause-fed : goal.returns-in-NoMemory-clause-fed
returns-in-NoMemory-clause-fed g c =
    fed_on g.A.Actor.rules (point c.args.acts.now c.args.self.now c.args.piece.now)
    c.lines.acts c.feed_line.new.acts c.lines.self c.feed_line.new.self c.lines.rest.now (c.in-Some.text.now ++ 10 ∷ []) c.in-Some.behind.now
    (trace (g.B.Sink.holds c.args.out.now) (g.B.Sink.count c.args.out.now) c.args.steps.now)
    (trace (g.B.Sink.holds c.lines.out) (g.B.Sink.count c.lines.out) c.lines.steps)
    (trace (g.B.Sink.holds c.feed_line.new.out) (g.B.Sink.count c.feed_line.new.out) c.feed_line.new.steps)
    feds.NoMemory c.lines.invariant.0 (c.in-Some.ensures.1 ∙ sym (append_assoc c.in-Some.text.now (10 ∷ []) c.in-Some.behind.now)) c.in-NoMemory.ensures.fed

pub returns-clause-fed : goal.returns-clause-fed
returns-clause-fed g c =
    fed_on g.A.Actor.rules (point c.args.acts.now c.args.self.now c.args.piece.now)
    c.lines.acts c.lines.acts c.lines.self c.feed_rest.new.self c.lines.rest.now c.lines.rest.now []
    (trace (g.B.Sink.holds c.args.out.now) (g.B.Sink.count c.args.out.now) c.args.steps.now)
    (trace (g.B.Sink.holds c.lines.out) (g.B.Sink.count c.lines.out) c.lines.steps)
    (trace (g.B.Sink.holds c.lines.out) (g.B.Sink.count c.lines.out) c.lines.steps)
    c.feed_rest.result c.lines.invariant.0 (sym (append_none c.lines.rest.now)) (c.feed_rest.ensures.fed (trace (g.B.Sink.holds c.lines.out) (g.B.Sink.count c.lines.out) c.lines.steps))
