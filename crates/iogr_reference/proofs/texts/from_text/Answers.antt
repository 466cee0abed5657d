use Rattle.iogr_reference.proofs.TextLaws.{is_spelled, is_unspelled}
use Rattle.iogr_reference.proofs.texts.from_text.Goals as goal

pub returns-clause-found : goal.returns-clause-found
returns-clause-found c = is_spelled c.args.text.now c.ior_of_text.result c.ior_of_text.ensures.read

pub returns-clause-refused : goal.returns-clause-refused
returns-clause-refused c = is_unspelled c.args.text.now c.ior_of_text.result c.ior_of_text.ensures.read
