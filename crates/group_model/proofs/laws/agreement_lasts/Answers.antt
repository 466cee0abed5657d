use Rattle.group_model.proofs.Growing.{steps_grow}
use Rattle.group_model.proofs.Lasting.{agreement_lasts}
use Rattle.group_model.specs.Runs.{after_steps}
use Rattle.group_model.proofs.laws.agreement_lasts.Goals as goal

pub returns : goal.returns
returns c = λ m g steps stays sound agree e lasts agrees. agreement_lasts m g (after_steps m g steps) e sound (steps_grow m g steps) lasts agrees
