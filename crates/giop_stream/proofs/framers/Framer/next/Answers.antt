use Rattle.std.proofs.Common.{None, Ok, IsTrue, rules}
use Rattle.giop_stream.specs.Steps.{Needs}
use Rattle.giop_stream.proofs.FrameLaws.{advances_needs, has_next}
use Rattle.giop_stream.proofs.framers.Framer.next.Goals as goal

pub returns-then-needs_more-clause-next : goal.returns-then-needs_more-clause-next
returns-then-needs_more-clause-next c = λ fed given stands.
    let more : IsTrue c.needs_more.result = search (rules, c.if-needs_more.true) in
    let needs : Needs c.args.self.now = c.needs_more.ensures more in
    has_next (Ok None) c.args.self.now c.args.self.now fed given (advances_needs c.args.self.now needs) stands
