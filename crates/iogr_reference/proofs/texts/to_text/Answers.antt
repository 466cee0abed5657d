use Rattle.iogr_reference.proofs.TextLaws.{is_text_of}
use Rattle.iogr_reference.proofs.texts.to_text.Goals as goal

pub returns-clause-spelled : goal.returns-clause-spelled
returns-clause-spelled c = is_text_of c.args.reference.now c.text_in.result c.text_in.ensures.value c.text_in.ensures.valid c.text_in.ensures.bytes
