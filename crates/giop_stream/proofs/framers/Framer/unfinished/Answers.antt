use Rattle.giop_stream.proofs.TallyLaws.{left_of, nothing_left}
use Rattle.giop_stream.proofs.framers.Framer.unfinished.Goals as goal

pub returns-then-is_between : goal.returns-then-is_between
returns-then-is_between c = λ fed given ms n stands ends.
    let none = c.is_between.ensures c.if-is_between.true in
    nothing_left c.args.self.now.begun c.args.self.now.rest n none.0 none.1 (left_of c.args.self.now fed given ms n stands ends)

pub returns : goal.returns
returns c = λ fed given ms n stands ends. c.left_over.ensures n (left_of c.args.self.now fed given ms n stands ends)
