use Rattle.ft_report.proofs.WorthLemmas.{none_in}
use Rattle.ft_report.proofs.outcomes.worth_of.Goals as goal

pub returns-in-None-clause-value : goal.returns-in-None-clause-value
returns-in-None-clause-value c = none_in c.args.gives c.args.value.now c.in-None.is
