use Rattle.std.proofs.Common.{length}
use Rattle.message_rows.proofs.streams.drain.Given as goal

abbrev pub decreases-messages : goal.decreases-messages
decreases-messages l = length l.framer.rest
