use Rattle.std.proofs.Common.{◌≡◌, ◌≤◌, length, sym, subst, IfOk, arith}
use Rattle.cdr_codec.specs.declared.orders.Order.TheVariants.{Big}
use Rattle.giop_messages.specs.declared.heads.TheConstants.{MESSAGE_LIMIT}
use Rattle.giop_messages.specs.declared.messages.Message.{Message}
use Rattle.giop_messages.specs.Messages.{giop}
use Rattle.giop_messages.specs.Writing.{Writable, written_message}
use Rattle.message_sizes.specs.Sizes.{request_of}
use Rattle.client_calls.proofs.Written.{size_is, writable}
use Rattle.client_calls.proofs.requests.spelling.Goals as goal

pub write_message-requires : goal.write_message-requires
write_message-requires c =
    let sized : length (written_message (request_of c.args.attempt.now) (giop 2 Big)) ≤ MESSAGE_LIMIT =
    omega (arith, c.if-request_size.false, c.request_size.ensures, size_is c.args.attempt.now) in
    subst (λ (m : Message). Writable m (giop 2 Big)) (sym c.in-Ok.ensures.value) (writable c.args.attempt.now sized c.in-Ok.ensures.op c.in-Ok.ensures.contexts c.in-Ok.ensures.key)

pub returns : goal.returns
returns c = subst (λ (m : Message). IfOk c.write_message.result (λ bytes. bytes ≡ written_message m (giop 2 Big))) c.in-Ok.ensures.value c.write_message.ensures.written
