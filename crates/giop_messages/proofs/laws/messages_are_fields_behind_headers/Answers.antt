use Rattle.giop_messages.proofs.MessageLaws.{fields_behind}
use Rattle.giop_messages.proofs.laws.messages_are_fields_behind_headers.Goals as goal

pub returns : goal.returns
returns c = fields_behind
