use Rattle.made_lines.proofs.RoundLemmas.{made_texts_read}
use Rattle.made_lines.proofs.laws.made_scripts_are_read.Goals as goal

pub returns : goal.returns
returns c = made_texts_read
