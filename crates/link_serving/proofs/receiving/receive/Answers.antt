use Rattle.std.proofs.Common.{take}
use Rattle.link_serving.proofs.receiving.receive.Goals as goal

pub returns-in-Err-clause-came : goal.returns-in-Err-clause-came
returns-in-Err-clause-came g c =
    (take c.in-Bytes.count c.receive.new.into, c.in-Bytes.ensures.read.2, c.in-Err.ensures.err, c.receive.ensures.holds, c.in-Bytes.ensures.read.3)
