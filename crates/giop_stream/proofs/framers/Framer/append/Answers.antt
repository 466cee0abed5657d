use Rattle.giop_stream.specs.Frames.{Frames}
use Rattle.giop_stream.proofs.FrameLaws.{kept_on}
use Rattle.giop_stream.proofs.framers.Framer.append.Goals as goal

pub invariant_of-self-2 : goal.invariant_of-self-2
invariant_of-self-2 c =
    let l = c.self.inside in
    let f : Frames = record { rest = l.buffer.unused; begun = l.partials; stopped = l.stopped; used = l.buffer.used; head = l.head } in
    kept_on l.need c.saturating_sub-self-inside.result f l.buffer c.append.new.self c.args.piece.now c.self.invariant c.in_ok-append.ensures.ok c.saturating_sub-self-inside.ensures
