use Rattle.group_stands.proofs.Replies.{log_replies}
use Rattle.group_stands.proofs.telling.logs_reply.Goals as goal

pub returns : goal.returns
returns c = log_replies c.logs_say_what_journals_say.ensures.admits
