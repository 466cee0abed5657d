use Rattle.std.proofs.Common.{length}
use Rattle.giop_stream.specs.Replies.{IsPast}
use Rattle.giop_stream.proofs.replies.ReplySession.advance.Given as goal

abbrev pub invariant-messages : goal.invariant-messages
invariant-messages l = IsPast l.fn.self l.self

abbrev pub decreases-messages : goal.decreases-messages
decreases-messages l = length l.self.frames.rest
