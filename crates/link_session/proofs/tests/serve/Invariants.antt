use Rattle.std.proofs.Common.{[], length}
use Rattle.link_session.specs.Amid.{IsAmid}
use Rattle.link_session.specs.Samples.{lonely}
use Rattle.link_session.proofs.tests.serve.Given as goal

abbrev pub invariant-messages : goal.invariant-messages
invariant-messages l = IsAmid lonely [] l.fn.link l.session l.written

abbrev pub decreases-messages : goal.decreases-messages
decreases-messages l = length l.session.frames.rest
