use Rattle.std.proofs.Common.{◌∙◌}
use Rattle.host_server.proofs.ReplyLaws.{reply_as}
use Rattle.host_server.proofs.replies.reply_bytes.Goals as goal

pub write_message-requires : goal.write_message-requires
write_message-requires c =
    reply_as c.args.id c.args.form c.args.answer.now c.in_ok-bytes.bytes c.status_of.result c.from_vec.result c.requires.known c.in_ok-bytes.ensures.short
    c.status_of.ensures (c.from_vec.ensures ∙ c.new.ensures.items)
