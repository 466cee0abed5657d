use Rattle.giop_messages.proofs.Codecs.{reference_codecs}
use Rattle.giop_messages.proofs.WritingLaws.{is_spelled, is_read_back}
use Rattle.giop_messages.proofs.writing.write_message.Goals as goal

pub returns-clause-spelled : goal.returns-clause-spelled
returns-clause-spelled c = is_spelled (reference_codecs c.references_are_codecs.ensures.each_profile c.references_are_codecs.ensures.references) c.args.message.now c.args.form c.write_exactly.result c.write_exactly.ensures.numbered c.requires c.write_exactly.ensures.written

pub returns-clause-read_back : goal.returns-clause-read_back
returns-clause-read_back c =
    is_read_back (reference_codecs c.references_are_codecs.ensures.each_profile c.references_are_codecs.ensures.references)
    c.args.message.now c.args.form c.write_exactly.result c.write_exactly.ensures.numbered c.requires c.write_exactly.ensures.written
