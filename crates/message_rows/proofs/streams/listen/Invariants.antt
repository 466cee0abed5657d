use Rattle.std.proofs.Common.{length}
use Rattle.message_rows.proofs.streams.listen.Given as goal

abbrev pub decreases-replies : goal.decreases-replies
decreases-replies l = length l.session.frames.rest
