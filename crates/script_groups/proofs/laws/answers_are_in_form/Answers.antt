use Rattle.script_groups.proofs.Going.{in_form}
use Rattle.script_groups.proofs.laws.answers_are_in_form.Goals as goal

pub returns : goal.returns
returns c = in_form c.answers_are_given.ensures.given
