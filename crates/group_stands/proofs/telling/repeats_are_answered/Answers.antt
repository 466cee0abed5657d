use Rattle.group_stands.proofs.Admits.{repeat_answered, caught_up_ran, caught_up_repeats}
use Rattle.group_stands.proofs.telling.repeats_are_answered.Goals as goal

pub returns-clause-answered : goal.returns-clause-answered
returns-clause-answered c = repeat_answered

pub returns-clause-run : goal.returns-clause-run
returns-clause-run c = caught_up_ran

pub returns-clause-caught_up : goal.returns-clause-caught_up
returns-clause-caught_up c = caught_up_repeats
