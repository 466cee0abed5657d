use Rattle.group_model.proofs.Stepping.{lean_grows, lean_keeps, lean_sound}
use Rattle.group_model.proofs.laws.lean_goes_on.Goals as goal

pub returns-clause-sound : goal.returns-clause-sound
returns-clause-sound c = λ m g e left stays sound agrees lean. lean_sound (record {
  goes = c.requests_join.ensures.journal;
  fitting = c.requests_join.ensures.fit;
  forms = c.canonical_forms_are_of_values.ensures;
}) m g e left sound agrees lean

pub returns-clause-grow : goal.returns-clause-grow
returns-clause-grow c = lean_grows

pub returns-clause-agree : goal.returns-clause-agree
returns-clause-agree c = lean_keeps
