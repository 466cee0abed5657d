use Rattle.link_session.proofs.Spelled.{spelled_known, spelled_short}
use Rattle.link_session.proofs.calls.calling_of.Goals as goal

pub message_calling-requires : goal.message_calling-requires
message_calling-requires c = spelled_short c.messages_are_within.ensures c.args.received c.requires

pub returns-clause-known : goal.returns-clause-known
returns-clause-known c = spelled_known c.args.received c.requires
