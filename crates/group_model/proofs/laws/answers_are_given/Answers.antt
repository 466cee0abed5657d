use Rattle.group_model.proofs.Answering.{answers_are_given, requests_are_replied}
use Rattle.group_model.proofs.laws.answers_are_given.Goals as goal

pub returns-clause-given : goal.returns-clause-given
returns-clause-given c = answers_are_given (record {
  fitting = c.requests_join.ensures.fit;
  forms = c.canonical_forms_are_of_values.ensures;
  given = c.replies_are_given.ensures.given;
})

pub returns-clause-replied : goal.returns-clause-replied
returns-clause-replied c = requests_are_replied
