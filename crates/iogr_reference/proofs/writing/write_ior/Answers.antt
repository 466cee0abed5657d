use Rattle.iogr_reference.proofs.WritingLaws.{is_written, is_valid}
use Rattle.iogr_reference.proofs.writing.write_ior.Goals as goal

pub returns-clause-spelled : goal.returns-clause-spelled
returns-clause-spelled c =
    is_written c.args.reference.now c.args.writer.now c.write_exactly.new.writer c.write_exactly.result c.requires c.write_exactly.ensures.written c.write_exactly.ensures.numbered

pub returns-clause-valid : goal.returns-clause-valid
returns-clause-valid c = is_valid c.args.reference.now c.write_exactly.result c.requires c.write_exactly.ensures.numbered
