use Rattle.std.proofs.Common.{◌≡◌, Some}
use Rattle.giop_stream.proofs.ReplyLaws.{reads_stopped, reads_taken, reads_waiting, stands_of}
use Rattle.giop_stream.proofs.SessionLaws.{has_none, stands_behind}
use Rattle.giop_stream.proofs.replies.ReplySession.step.Goals as goal

pub returns-in-Ok-Some-clause-next : goal.returns-in-Ok-Some-clause-next
returns-in-Ok-Some-clause-next c = λ fed given h.
    let is : c.in-Ok-Some.field-0 ≡ Some c.in-Ok-Some.received = cc in
    let at = stands_of c.args.self.now fed given c.requires h in
    reads_taken c.take.result c.in-Ok-Some.received c.args.self.now c.read.new.self c.take.new.self fed given at.0 c.requires c.in-Ok-Some.ensures.ended
    c.take.ensures at.1
    (stands_behind c.in-Ok-Some.field-0 c.in-Ok-Some.received fed at.0 c.read.new.self.frames is (c.in-Ok-Some.ensures.next fed at.0 at.1))
    h

pub returns-in-Ok-None-clause-next : goal.returns-in-Ok-None-clause-next
returns-in-Ok-None-clause-next c = λ fed given h.
    let at = stands_of c.args.self.now fed given c.requires h in
    reads_waiting c.args.self.now c.read.new.self fed given at.0 c.requires c.in-Ok-None.ensures.ended
    (has_none c.in-Ok-None.field-0 fed at.0 c.read.new.self.frames c.in-Ok-None.field-0-is (c.in-Ok-None.ensures.next fed at.0 at.1))
    at.1 h

pub returns-in-Err-clause-next : goal.returns-in-Err-clause-next
returns-in-Err-clause-next c = λ fed given h.
    let at = stands_of c.args.self.now fed given c.requires h in
    reads_stopped c.stop.result c.in-Err.fault c.args.self.now c.read.new.self c.stop.new.self fed given at.0 c.requires c.in-Err.ensures.ended c.stop.ensures
    (c.in-Err.ensures.next fed at.0 at.1) at.1 h
