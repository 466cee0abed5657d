use Rattle.std.proofs.Common.{◌-◌, ◌≤◌, ◌<◌, length}
use Rattle.script_pieces.specs.Runs.{script_limit}
use Rattle.script_pieces.specs.Feeds.{trace}
use Rattle.script_pieces.specs.Scripts.{outside}
use Rattle.script_pieces.proofs.Endings.{SoFar}
use Rattle.script_pieces.proofs.running.run_pieces.Given as goal

-- the bytes that were read so far were fed
abbrev pub invariant-pieces : goal.invariant-pieces
invariant-pieces g l =
    SoFar g.A.Actor.rules l.fn.acts
    (outside (g.S.Source.left l.fn.input) (g.S.Source.count l.fn.input) (trace (g.B.Sink.holds l.fn.out) (g.B.Sink.count l.fn.out) l.fn.steps))
    l.acts l.pieces
    (outside (g.S.Source.left l.input) (g.S.Source.count l.input) (trace (g.B.Sink.holds l.out) (g.B.Sink.count l.out) l.steps))
    × (l.pieces.read ≤ script_limit) × (0 < length l.room) × g.A.Actor.may_act l.acts l.pieces.number

abbrev pub decreases-pieces : goal.decreases-pieces
decreases-pieces g l = script_limit - l.pieces.read
