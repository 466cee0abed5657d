use Rattle.std.proofs.Common.{◌≡◌, Some}
use Rattle.giop_stream.proofs.ReplyLaws.{past_step, reads_of}
use Rattle.giop_stream.proofs.replies.ReplySession.advance.Goals as goal

pub returns-in-Ok-Some-clause-next : goal.returns-in-Ok-Some-clause-next
returns-in-Ok-Some-clause-next c = λ fed given h.
    let is : c.in-Ok-Some.field-0 ≡ Some c.in-Ok-Some.step = cc in
    reads_of c.in-Ok-Some.field-0 c.in-Ok-Some.step fed given c.step.new.self is (c.in-Ok-Some.ensures.next fed given (c.messages.invariant.on fed given h))

pub messages-preserved : goal.messages-preserved
messages-preserved c =
    past_step _ c.messages.self c.step.new.self c.in-Ok-None.field-0 c.messages.invariant c.in-Ok-None.field-0-is c.in-Ok-None.ensures.next
    c.in-Ok-None.ensures.stays c.in-Ok-None.ensures.shorter

pub returns-in-Err-clause-next : goal.returns-in-Err-clause-next
returns-in-Err-clause-next c = λ fed given h. c.in-Err.ensures.next fed given (c.messages.invariant.on fed given h)
