use Rattle.giop_messages.proofs.WithinLaws.{message_within}
use Rattle.giop_messages.proofs.laws.messages_are_within.Goals as goal

pub returns : goal.returns
returns c = message_within
