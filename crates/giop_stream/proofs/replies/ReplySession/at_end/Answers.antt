use Rattle.std.proofs.Common.{sym, ap, ◌∙◌}
use Rattle.giop_stream.specs.Sessions.{rest_end}
use Rattle.giop_stream.proofs.ReplyLaws.{at_ended, at_rest, stands_of}
use Rattle.giop_stream.proofs.replies.ReplySession.at_end.Goals as goal

pub returns-in-Some : goal.returns-in-Some
returns-in-Some c = λ fed given h all. at_ended c.args.self.now fed given c.in-Some.end (sym c.in-Some.ensures) h

pub returns-in-None : goal.returns-in-None
returns-in-None c = λ fed given h all.
    let at = stands_of c.args.self.now fed given (sym c.in-None.ensures) h in
    at_rest fed given all.1 c.rest_end.result all.3 (c.rest_end.ensures ∙ ap rest_end (c.unfinished.ensures fed at.0 all.0 all.1 at.1 all.2))
