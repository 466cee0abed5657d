use Rattle.giop_stream.specs.Tallies.{briefs}
use Rattle.giop_stream.proofs.TallyLaws.{left_same}
use Rattle.giop_stream.proofs.framers.Framer.left_over.Goals as goal

pub returns : goal.returns
returns c = λ n here.
    let here' = rw (← c.self.view_is) at here in
    c.left_over.ensures n
    (left_same (briefs c.self.inside.partials) c.tally.result c.self.inside.buffer.unused c.unused.result.now n c.tally.ensures c.unused.ensures here')
