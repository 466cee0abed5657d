use Rattle.group_model.proofs.Reopening.{reopened_sound}
use Rattle.group_model.proofs.reopened.reopened_groups_are_sound.Goals as goal

pub returns : goal.returns
returns c = reopened_sound
