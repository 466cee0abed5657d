use Rattle.std.proofs.Common.{Option, None, Result, Ok, Err}
use Rattle.giop_messages.specs.declared.heads.Head.{Head}
use Rattle.giop_stream.specs.declared.faults.StreamFault.{StreamFault}
use Rattle.giop_stream.proofs.FrameLaws.{looked_none}
use Rattle.giop_stream.proofs.framers.Framer.look.Goals as goal

abbrev none : Result (Option Head) StreamFault
none = Ok None

pub returns-in-Ok-None-clause-looked : goal.returns-in-Ok-None-clause-looked
returns-in-Ok-None-clause-looked c =
    let here = rw c.in-Ok-None.field-0-is at c.in-Ok-None.ensures in
    looked_none c.args.self.now none here.value here.before

pub returns-in-Err-clause-looked : goal.returns-in-Err-clause-looked
returns-in-Err-clause-looked c = looked_none c.args.self.now (Err c.in-Err.fault) c.in-Err.ensures.value c.in-Err.ensures.before
