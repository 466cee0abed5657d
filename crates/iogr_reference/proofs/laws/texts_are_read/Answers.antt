use Rattle.iogr_reference.proofs.TextLaws.{texts_are_spelled, texts_are_read}
use Rattle.iogr_reference.proofs.laws.texts_are_read.Goals as goal

pub returns : goal.returns
returns c = record { spelled = texts_are_spelled; read = texts_are_read }
