use Rattle.cdr_codec.proofs.ArgumentLaws.{is_read_as}
use Rattle.cdr_codec.proofs.laws.canonical_forms_are_read.Goals as goal

pub returns : goal.returns
returns c = λ pars bytes h. is_read_as pars bytes ((c.canonical_forms_are_of_values.ensures pars 0 bytes).0 h)
