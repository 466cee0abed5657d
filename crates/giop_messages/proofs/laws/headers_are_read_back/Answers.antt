use Rattle.giop_messages.proofs.WritingLaws.{head_back}
use Rattle.giop_messages.proofs.laws.headers_are_read_back.Goals as goal

pub returns : goal.returns
returns c = head_back
