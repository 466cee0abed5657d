use Rattle.std.proofs.Common.{arith, ap, subst, sym}
use Rattle.script_pieces.specs.Feeds.{Place, trace}
use Rattle.script_pieces.specs.Scripts.{outside}
use Rattle.script_pieces.specs.declared.feeding.FeedResult.TheVariants as feds
use Rattle.script_pieces.proofs.Endings.{so_none, so_more, over_failed, over_end, over_fed, over_starved}
use Rattle.script_pieces.proofs.running.run_pieces.Goals as goal

pub returns-in-Err : goal.returns-in-Err
returns-in-Err g c =
    over_starved g.A.Actor.rules c.args.acts.now
    (outside (g.S.Source.left c.args.input.now) (g.S.Source.count c.args.input.now) (trace (g.B.Sink.holds c.args.out.now) (g.B.Sink.count c.args.out.now) c.args.steps.now))

pub returns-in-Err-vec : goal.returns-in-Err-vec
returns-in-Err-vec g c =
    over_starved g.A.Actor.rules c.args.acts.now
    (outside (g.S.Source.left c.args.input.now) (g.S.Source.count c.args.input.now) (trace (g.B.Sink.holds c.args.out.now) (g.B.Sink.count c.args.out.now) c.args.steps.now))

pub pieces-init : goal.pieces-init
pieces-init g c = (
  so_none g.A.Actor.rules c.args.acts.now c.in-Ok.pieces
      (outside (g.S.Source.left c.args.input.now) (g.S.Source.count c.args.input.now) (trace (g.B.Sink.holds c.args.out.now) (g.B.Sink.count c.args.out.now) c.args.steps.now))
      c.in-Ok.ensures,
  omega (arith, ap (λ (p : Place). p.read) c.in-Ok.ensures),
  omega (arith, c.as_mut_slice-room.ensures.len, c.in-Ok-vec.ensures.len),
  subst (λ (p : Place). g.A.Actor.may_act c.args.acts.now p.number) (sym c.in-Ok.ensures) c.requires,
)

pub returns-in-Failed : goal.returns-in-Failed
returns-in-Failed g c =
    over_failed g.A.Actor.rules c.args.acts.now c.pieces.acts c.pieces.pieces
    (outside (g.S.Source.left c.args.input.now) (g.S.Source.count c.args.input.now) (trace (g.B.Sink.holds c.args.out.now) (g.B.Sink.count c.args.out.now) c.args.steps.now))
    (outside (g.S.Source.left c.pieces.input) (g.S.Source.count c.pieces.input) (trace (g.B.Sink.holds c.pieces.out) (g.B.Sink.count c.pieces.out) c.pieces.steps))
    (g.S.Source.left c.read.new.self) (g.S.Source.count c.read.new.self) c.read.new.into c.pieces.invariant.0 c.in-Failed.ensures c.pieces.invariant.1

pub returns-in-On : goal.returns-in-On
returns-in-On g c =
    over_end g.A.Actor.rules c.args.acts.now c.pieces.acts c.pieces.pieces
    (outside (g.S.Source.left c.args.input.now) (g.S.Source.count c.args.input.now) (trace (g.B.Sink.holds c.args.out.now) (g.B.Sink.count c.args.out.now) c.args.steps.now))
    (outside (g.S.Source.left c.pieces.input) (g.S.Source.count c.pieces.input) (trace (g.B.Sink.holds c.pieces.out) (g.B.Sink.count c.pieces.out) c.pieces.steps))
    (g.S.Source.left c.read.new.self) (g.S.Source.count c.read.new.self) (trace (g.B.Sink.holds c.finish_out.new.out) (g.B.Sink.count c.finish_out.new.out) c.finish_out.new.steps)
    c.read.new.into feds.On c.pieces.invariant.0 c.in-End.ensures c.in-On.ensures

pub returns-in-Refused : goal.returns-in-Refused
returns-in-Refused g c =
    over_end g.A.Actor.rules c.args.acts.now c.pieces.acts c.pieces.pieces
    (outside (g.S.Source.left c.args.input.now) (g.S.Source.count c.args.input.now) (trace (g.B.Sink.holds c.args.out.now) (g.B.Sink.count c.args.out.now) c.args.steps.now))
    (outside (g.S.Source.left c.pieces.input) (g.S.Source.count c.pieces.input) (trace (g.B.Sink.holds c.pieces.out) (g.B.Sink.count c.pieces.out) c.pieces.steps))
    (g.S.Source.left c.read.new.self) (g.S.Source.count c.read.new.self) (trace (g.B.Sink.holds c.finish_out.new.out) (g.B.Sink.count c.finish_out.new.out) c.finish_out.new.steps)
    c.read.new.into (feds.Refused c.in-Refused.number c.in-Refused.why) c.pieces.invariant.0 c.in-End.ensures c.in-Refused.ensures

pub returns-in-WriteFailed : goal.returns-in-WriteFailed
returns-in-WriteFailed g c =
    over_end g.A.Actor.rules c.args.acts.now c.pieces.acts c.pieces.pieces
    (outside (g.S.Source.left c.args.input.now) (g.S.Source.count c.args.input.now) (trace (g.B.Sink.holds c.args.out.now) (g.B.Sink.count c.args.out.now) c.args.steps.now))
    (outside (g.S.Source.left c.pieces.input) (g.S.Source.count c.pieces.input) (trace (g.B.Sink.holds c.pieces.out) (g.B.Sink.count c.pieces.out) c.pieces.steps))
    (g.S.Source.left c.read.new.self) (g.S.Source.count c.read.new.self) (trace (g.B.Sink.holds c.finish_out.new.out) (g.B.Sink.count c.finish_out.new.out) c.finish_out.new.steps)
    c.read.new.into feds.WriteFailed c.pieces.invariant.0 c.in-End.ensures c.in-WriteFailed.ensures

pub returns-in-NoMemory : goal.returns-in-NoMemory
returns-in-NoMemory g c =
    over_end g.A.Actor.rules c.args.acts.now c.pieces.acts c.pieces.pieces
    (outside (g.S.Source.left c.args.input.now) (g.S.Source.count c.args.input.now) (trace (g.B.Sink.holds c.args.out.now) (g.B.Sink.count c.args.out.now) c.args.steps.now))
    (outside (g.S.Source.left c.pieces.input) (g.S.Source.count c.pieces.input) (trace (g.B.Sink.holds c.pieces.out) (g.B.Sink.count c.pieces.out) c.pieces.steps))
    (g.S.Source.left c.read.new.self) (g.S.Source.count c.read.new.self) (trace (g.B.Sink.holds c.finish_out.new.out) (g.B.Sink.count c.finish_out.new.out) c.finish_out.new.steps)
    c.read.new.into feds.NoMemory c.pieces.invariant.0 c.in-End.ensures c.in-NoMemory.ensures

pub pieces-preserved : goal.pieces-preserved
pieces-preserved g c = (
  so_more g.A.Actor.rules c.args.acts.now c.pieces.acts c.feed_out.new.acts c.pieces.pieces c.feed_out.new.pieces
      (outside (g.S.Source.left c.args.input.now) (g.S.Source.count c.args.input.now) (trace (g.B.Sink.holds c.args.out.now) (g.B.Sink.count c.args.out.now) c.args.steps.now))
      (outside (g.S.Source.left c.pieces.input) (g.S.Source.count c.pieces.input) (trace (g.B.Sink.holds c.pieces.out) (g.B.Sink.count c.pieces.out) c.pieces.steps))
      (g.S.Source.left c.read.new.self) (g.S.Source.count c.read.new.self) c.in-Bytes.count (trace (g.B.Sink.holds c.feed_out.new.out) (g.B.Sink.count c.feed_out.new.out) c.feed_out.new.steps)
      c.read.new.into c.front.result.now c.pieces.invariant.0 c.in-Bytes.ensures c.front.ensures c.in-On-feed_out.ensures.fed,
  c.in-On-feed_out.ensures.within,
  omega (arith, c.in-Bytes.ensures),
  c.in-On-feed_out.ensures.next,
)

pub returns-in-Refused-feed_out : goal.returns-in-Refused-feed_out
returns-in-Refused-feed_out g c =
    over_fed g.A.Actor.rules c.args.acts.now c.pieces.acts c.feed_out.new.acts c.pieces.pieces c.feed_out.new.pieces
    (outside (g.S.Source.left c.args.input.now) (g.S.Source.count c.args.input.now) (trace (g.B.Sink.holds c.args.out.now) (g.B.Sink.count c.args.out.now) c.args.steps.now))
    (outside (g.S.Source.left c.pieces.input) (g.S.Source.count c.pieces.input) (trace (g.B.Sink.holds c.pieces.out) (g.B.Sink.count c.pieces.out) c.pieces.steps))
    (g.S.Source.left c.read.new.self) (g.S.Source.count c.read.new.self) c.in-Bytes.count (trace (g.B.Sink.holds c.feed_out.new.out) (g.B.Sink.count c.feed_out.new.out) c.feed_out.new.steps)
    c.read.new.into c.front.result.now (feds.Refused c.in-Refused-feed_out.number c.in-Refused-feed_out.why) c.pieces.invariant.0 c.in-Bytes.ensures c.front.ensures c.in-Refused-feed_out.ensures.fed

pub returns-in-WriteFailed-feed_out : goal.returns-in-WriteFailed-feed_out
returns-in-WriteFailed-feed_out g c =
    over_fed g.A.Actor.rules c.args.acts.now c.pieces.acts c.feed_out.new.acts c.pieces.pieces c.feed_out.new.pieces
    (outside (g.S.Source.left c.args.input.now) (g.S.Source.count c.args.input.now) (trace (g.B.Sink.holds c.args.out.now) (g.B.Sink.count c.args.out.now) c.args.steps.now))
    (outside (g.S.Source.left c.pieces.input) (g.S.Source.count c.pieces.input) (trace (g.B.Sink.holds c.pieces.out) (g.B.Sink.count c.pieces.out) c.pieces.steps))
    (g.S.Source.left c.read.new.self) (g.S.Source.count c.read.new.self) c.in-Bytes.count (trace (g.B.Sink.holds c.feed_out.new.out) (g.B.Sink.count c.feed_out.new.out) c.feed_out.new.steps)
    c.read.new.into c.front.result.now feds.WriteFailed c.pieces.invariant.0 c.in-Bytes.ensures c.front.ensures c.in-WriteFailed-feed_out.ensures.fed

pub returns-in-NoMemory-feed_out : goal.returns-in-NoMemory-feed_out
returns-in-NoMemory-feed_out g c =
    over_fed g.A.Actor.rules c.args.acts.now c.pieces.acts c.feed_out.new.acts c.pieces.pieces c.feed_out.new.pieces
    (outside (g.S.Source.left c.args.input.now) (g.S.Source.count c.args.input.now) (trace (g.B.Sink.holds c.args.out.now) (g.B.Sink.count c.args.out.now) c.args.steps.now))
    (outside (g.S.Source.left c.pieces.input) (g.S.Source.count c.pieces.input) (trace (g.B.Sink.holds c.pieces.out) (g.B.Sink.count c.pieces.out) c.pieces.steps))
    (g.S.Source.left c.read.new.self) (g.S.Source.count c.read.new.self) c.in-Bytes.count (trace (g.B.Sink.holds c.feed_out.new.out) (g.B.Sink.count c.feed_out.new.out) c.feed_out.new.steps)
    c.read.new.into c.front.result.now feds.NoMemory c.pieces.invariant.0 c.in-Bytes.ensures c.front.ensures c.in-NoMemory-feed_out.ensures.fed
