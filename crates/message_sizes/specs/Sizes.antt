-- How many bytes the messages of a script have, as messages of GIOP 1.2 in big endian order.
use Rattle.std.specs.Prelude.{◌≡◌, ℕ, length}
use Rattle.cdr_codec.specs.declared.orders.Order.TheVariants.{Big}
use Rattle.iogr_reference.specs.Choices.{object_key}
use Rattle.ft_contexts.specs.Writing.{written_contexts}
use Rattle.giop_messages.specs.declared.messages.Message.{Message}
use Rattle.giop_messages.specs.declared.messages.Message.TheVariants as messages
use Rattle.giop_messages.specs.Messages.{giop}
use Rattle.giop_messages.specs.Writing.{written_message}
use Rattle.script_clients.specs.declared.answers.Attempt.{Attempt}
use Rattle.host_server.specs.declared.answers.PortAnswer.{PortAnswer}
use Rattle.host_server.specs.Replies.{reply_to}

-- the Request of a client's attempt: it asks for a reply, and its contexts tell the version and the key that it names
abbrev pub request_of : Attempt → Message
request_of attempt = messages.Request (record {
  id = attempt.id;
  flags = 3;
  key = object_key attempt.group;
  op = attempt.request.op;
  contexts = written_contexts attempt.version attempt.request.key;
  body = record { order = Big; align = 0; bytes = attempt.request.args };
})

unfoldable pub request_size : Attempt → ℕ
request_size attempt = length (written_message (request_of attempt) (giop 2 Big))

unfoldable pub reply_size : ℕ → PortAnswer → ℕ
reply_size id answer = length (written_message (reply_to id (giop 2 Big) answer) (giop 2 Big))

-- of the Reply to a request, whatever the request's id
unfoldable pub answer_size : PortAnswer → ℕ
answer_size answer = reply_size 0 answer

abbrev pub RepliesAreAsLong : Type 0
RepliesAreAsLong = (id : ℕ) (answer : PortAnswer) → reply_size id answer ≡ answer_size answer
