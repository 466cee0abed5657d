use Rattle.std.proofs.Common.{◌∙◌, ap}
use Rattle.giop_messages.specs.Writing.{begun_message}
use Rattle.giop_messages.proofs.WritingSteps.{text_written, text_short, text_whole}
use Rattle.giop_messages.proofs.writing.write_exactly.Goals as goal

pub with_size-requires-clause-short : goal.with_size-requires-clause-short
with_size-requires-clause-short c =
    text_short c.args.message.now c.args.form c.write_fields.new.writer c.requires
    (text_written c.args.message.now c.args.form c.in_ok-writer.writer c.write_fields.new.writer
    (c.in_ok-writer.ensures ∙ ap (begun_message c.args.form) c.kind.ensures) c.in_ok-write_fields.ensures.written)

pub returns-clause-written : goal.returns-clause-written
returns-clause-written c =
    c.with_size.ensures
    ∙ text_whole c.args.message.now c.args.form c.write_fields.new.writer
    (text_written c.args.message.now c.args.form c.in_ok-writer.writer c.write_fields.new.writer
    (c.in_ok-writer.ensures ∙ ap (begun_message c.args.form) c.kind.ensures) c.in_ok-write_fields.ensures.written)
