use Rattle.giop_messages.proofs.MessageLaws.{head_found, head_again}
use Rattle.giop_messages.proofs.laws.heads_are_read_exactly.Goals as goal

pub returns : goal.returns
returns c = λ bytes h. (head_found bytes h, head_again bytes h)
