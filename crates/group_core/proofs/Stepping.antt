-- An event at a core is a step of its group.
use Rattle.std.proofs.Common.{refl}
use Rattle.group_model.specs.declared.events.GroupAnswer.TheVariants as answers
use Rattle.group_core.specs.Acting.{IsTaken}
use Rattle.group_core.specs.Stepping.{ActsAreSteps}

pub acts_are_steps : ActsAreSteps
acts_are_steps machines core later g e answers.NoMemory before now stands agrees acted =
    (acted.left, record { sound = stands.sound; agrees = agrees; leads = acted.lean }, acted.stands)
acts_are_steps machines core later g e answer before now stands agrees acted =
    let taken : IsTaken machines g e answer later before now = acted in
    (_, record { sound = stands.sound; agrees = agrees; leads = (taken.told, refl) }, taken.stands)
