use Rattle.group_model.proofs.Stepping.{steps_grow, steps_keep, steps_sound}
use Rattle.group_model.proofs.laws.steps_go_on.Goals as goal

pub returns-clause-sound : goal.returns-clause-sound
returns-clause-sound c = λ m g acts after stays sound are. steps_sound (record {
  goes = c.requests_join.ensures.journal;
  fitting = c.requests_join.ensures.fit;
  forms = c.canonical_forms_are_of_values.ensures;
}) m g acts after sound are

pub returns-clause-grow : goal.returns-clause-grow
returns-clause-grow c = steps_grow

pub returns-clause-agree : goal.returns-clause-agree
returns-clause-agree c = steps_keep
