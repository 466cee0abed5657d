use Rattle.std.proofs.Common.{sym, ap, ◌∙◌}
use Rattle.giop_stream.specs.Sessions.{rest_end}
use Rattle.giop_stream.proofs.SessionLaws.{at_ended, at_rest, stands_of}
use Rattle.giop_stream.proofs.sessions.Session.at_end.Goals as goal

pub returns-in-Some : goal.returns-in-Some
returns-in-Some c = λ fed given h all. at_ended c.args.self.now fed given c.in-Some.end (sym c.in-Some.ensures) h

pub returns-in-None : goal.returns-in-None
returns-in-None c = λ fed given h all.
    let e = sym c.in-None.ensures in
    at_rest c.args.self.now fed given all.0 c.rest_end.result e h all.1
    (c.rest_end.ensures ∙ ap rest_end (c.unfinished.ensures fed given given all.0 (stands_of c.args.self.now fed given e h) all.1))
