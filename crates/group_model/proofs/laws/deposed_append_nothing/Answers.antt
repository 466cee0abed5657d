use Rattle.group_model.proofs.Refusing.{deposed_append_nothing}
use Rattle.group_model.proofs.laws.deposed_append_nothing.Goals as goal

pub returns : goal.returns
returns c = deposed_append_nothing
