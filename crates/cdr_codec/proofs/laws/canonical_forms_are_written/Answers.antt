use Rattle.cdr_codec.proofs.ArgumentLaws.{value_written, values_written}
use Rattle.cdr_codec.proofs.laws.canonical_forms_are_written.Goals as goal

pub returns : goal.returns
returns c = record { one = value_written; all = values_written }
