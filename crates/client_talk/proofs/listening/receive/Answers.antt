use Rattle.std.proofs.Common.{take}
use Rattle.client_talk.proofs.listening.receive.Goals as goal

pub returns-in-Ok-clause-came : goal.returns-in-Ok-clause-came
returns-in-Ok-clause-came g c = (take c.in-Bytes.count c.receive.new.into, c.in-Bytes.ensures.read.2, c.in-Ok.ensures.ok, c.in-Bytes.ensures.read.3)
