use Rattle.std.proofs.Common.{◌∙◌, ap, sym}
use Rattle.cdr_codec.specs.Formats.{number, octets}
use Rattle.cdr_codec.specs.Values.{text}
use Rattle.cdr_codec.specs.Calls.{Writer, appended}
use Rattle.giop_messages.specs.Fields.{reserved, response_expected, requesting_principal}
use Rattle.giop_messages.specs.Messages.{head_of_request}
use Rattle.giop_messages.proofs.WritingSteps.{key_and_op, request_1_1_written}
use Rattle.giop_messages.proofs.requests.write_request_1_1.Goals as goal

pub returns-clause-written : goal.returns-clause-written
returns-clause-written c =
    let h = head_of_request c.args.request.now in
    key_and_op h.key _ h.op _ _ _ _ _ c.bytes.ensures c.in_ok-write_octets.ensures.written c.bytes-2.ensures c.in_ok-write_string.ensures.written
    c.in_ok-write_requesting_principal.ensures
    ∙ ap (λ (w : Writer). appended requesting_principal.written tt (appended text.written h.op (appended octets.written h.key w)))
    (c.in_ok-write_reserved-3.ensures ∙ ap (appended reserved.written tt) c.in_ok-write_reserved-2.ensures
    ∙ ap (λ (w : Writer). appended reserved.written tt (appended reserved.written tt w)) c.in_ok-write_reserved.ensures
    ∙ ap (λ (w : Writer). appended reserved.written tt (appended reserved.written tt (appended reserved.written tt w)))
    (c.in_ok-write_response_expected.ensures ∙ ap (appended response_expected.written h.flags) c.in_ok-write_u32.ensures.written
    ∙ ap (λ (w : Writer). appended response_expected.written h.flags (appended (number 4).written h.id w)) c.in_ok-write_contexts.ensures.written))
    ∙ sym (request_1_1_written h c.args.writer.now)
