use Rattle.script_pieces.specs.Feeds.{trace}
use Rattle.script_pieces.specs.Scripts.{outside}
use Rattle.script_pieces.proofs.Endings.{over_told}
use Rattle.script_pieces.proofs.running.run_script.Goals as goal

pub returns-clause-over : goal.returns-clause-over
returns-clause-over g c = c.run_pieces.ensures

pub returns-clause-told : goal.returns-clause-told
returns-clause-told g c =
    over_told g.A.Actor.rules c.args.acts.now
    (outside (g.S.Source.left c.args.input.now) (g.S.Source.count c.args.input.now) (trace (g.B.Sink.holds c.args.out.now) (g.B.Sink.count c.args.out.now) c.args.steps.now))
    (outside (g.S.Source.left c.run_pieces.new.input) (g.S.Source.count c.run_pieces.new.input) (trace (g.B.Sink.holds c.run_pieces.new.out) (g.B.Sink.count c.run_pieces.new.out) c.run_pieces.new.steps))
    c.run_pieces.result c.run_pieces.ensures
