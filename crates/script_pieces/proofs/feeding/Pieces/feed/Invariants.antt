use Rattle.std.proofs.Common.{length}
use Rattle.script_pieces.specs.Feeds.{IsFed, point, trace}
use Rattle.script_pieces.specs.declared.feeding.FeedResult.TheVariants as feds
use Rattle.script_pieces.proofs.feeding.Pieces.feed.Given as goal

-- the lines so far went on, with the rest to come, and the next may be acted
abbrev pub invariant-lines : goal.invariant-lines
invariant-lines g l =
    IsFed g.A.Actor.rules (point l.fn.acts l.fn.self l.piece) (trace (g.B.Sink.holds l.fn.out) (g.B.Sink.count l.fn.out) l.fn.steps)
    (point l.acts l.self l.rest) (trace (g.B.Sink.holds l.out) (g.B.Sink.count l.out) l.steps) feds.On
    × g.A.Actor.may_act l.acts l.self.number

abbrev pub decreases-lines : goal.decreases-lines
decreases-lines g l = length l.rest
