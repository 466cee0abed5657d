use Rattle.group_model.proofs.Sounding.{groups_stay_sound}
use Rattle.group_model.proofs.laws.groups_stay_sound.Goals as goal

pub returns : goal.returns
returns c = λ m g steps stays sound agree. groups_stay_sound (record {
  goes = c.requests_join.ensures.journal;
  fitting = c.requests_join.ensures.fit;
  forms = c.canonical_forms_are_of_values.ensures;
}) m g steps sound agree
