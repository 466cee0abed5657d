use Rattle.std.proofs.Common.{◌≡◌, ℕ, List, Option}
use Rattle.giop_messages.specs.declared.messages.ReplyMsg.{ReplyMsg}
use Rattle.client_talk.specs.Hearing.{IsRead}
use Rattle.client_talk.proofs.listening.listen.Given as goal

abbrev pub invariant-loop : goal.invariant-loop
invariant-loop g l = record {
  on : (whole : Option (List ℕ)) (given : List ReplyMsg) → IsRead whole given (g.L.Source.left l.fn.link) l.fn.session → IsRead whole given (g.L.Source.left l.link) l.session;
  calm : g.L.Link.faults l.link ≡ g.L.Link.faults l.fn.link;
  holds : g.L.Sink.holds l.link ≡ g.L.Sink.holds l.fn.link;
}
