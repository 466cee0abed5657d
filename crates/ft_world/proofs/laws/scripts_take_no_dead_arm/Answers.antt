use Rattle.ft_world.proofs.AnswerLemmas.{answers_fit}
use Rattle.ft_world.proofs.JournalLemmas.{scripts_name_made}
use Rattle.ft_world.proofs.laws.scripts_take_no_dead_arm.Goals as goal

pub returns-clause-made : goal.returns-clause-made
returns-clause-made c = scripts_name_made

pub returns-clause-answered : goal.returns-clause-answered
returns-clause-answered c = answers_fit
