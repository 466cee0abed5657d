use Rattle.std.proofs.Common.{◌∙◌, ap, sym, ℕ, List}
use Rattle.cdr_codec.specs.Formats.{number}
use Rattle.cdr_codec.specs.Values.{text}
use Rattle.cdr_codec.specs.Calls.{Writer, appended}
use Rattle.giop_messages.specs.Addresses.{address}
use Rattle.giop_messages.specs.Fields.{reserved, contexts}
use Rattle.giop_messages.specs.Messages.{head_of_request}
use Rattle.giop_messages.proofs.WritingSteps.{request_1_2_written}
use Rattle.giop_messages.proofs.requests.write_request_1_2.Goals as goal

pub returns-clause-written : goal.returns-clause-written
returns-clause-written c =
    let h = head_of_request c.args.request.now in
    c.in_ok-write_contexts.ensures.written
    ∙ ap (appended contexts.written h.contexts) c.in_ok-write_string.ensures.written
    ∙ ap (λ (t : List ℕ). appended contexts.written h.contexts (appended text.written t c.write_address.new.writer)) c.bytes-2.ensures
    ∙ ap (λ (w : Writer). appended contexts.written h.contexts (appended text.written h.op w)) c.in_ok-write_address.ensures
    ∙ ap (λ (t : List ℕ). appended contexts.written h.contexts (appended text.written h.op (appended address.written t c.write_reserved-3.new.writer))) c.bytes.ensures
    ∙ ap (λ (w : Writer). appended contexts.written h.contexts (appended text.written h.op (appended address.written h.key w)))
    (c.in_ok-write_reserved-3.ensures ∙ ap (appended reserved.written tt) c.in_ok-write_reserved-2.ensures
    ∙ ap (λ (w : Writer). appended reserved.written tt (appended reserved.written tt w)) c.in_ok-write_reserved.ensures
    ∙ ap (λ (w : Writer). appended reserved.written tt (appended reserved.written tt (appended reserved.written tt w))) c.in_ok-write_octet.ensures.written
    ∙ ap (λ (w : Writer). appended reserved.written tt (appended reserved.written tt (appended reserved.written tt (appended (number 1).written h.flags w)))) c.in_ok-write_u32.ensures.written)
    ∙ sym (request_1_2_written h c.args.writer.now)
