use Rattle.iogr_reference.proofs.KeyLaws.{keys_name_groups}
use Rattle.iogr_reference.proofs.laws.keys_name_groups.Goals as goal

pub returns : goal.returns
returns c = keys_name_groups
