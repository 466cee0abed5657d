-- Each message makes what is left shorter.
use Rattle.std.proofs.Common.{length}
use Rattle.bench_giop.proofs.framing.drain.Given as goal

abbrev pub decreases-messages : goal.decreases-messages
decreases-messages l = length l.framer.rest
