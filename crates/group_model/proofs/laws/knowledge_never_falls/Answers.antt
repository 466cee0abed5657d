use Rattle.group_model.proofs.Knowing.{knowledge_never_falls}
use Rattle.group_model.proofs.laws.knowledge_never_falls.Goals as goal

pub returns : goal.returns
returns c = λ m g e fails i sound agrees stays. knowledge_never_falls m g e fails i sound stays
