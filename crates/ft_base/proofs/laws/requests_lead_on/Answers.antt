use Rattle.ft_base.proofs.laws.requests_lead_on.Goals as goal
use Rattle.ft_base.proofs.Reached.{reached_one, reached_more}

pub returns-clause-one : goal.returns-clause-one
returns-clause-one c = reached_one

pub returns-clause-more : goal.returns-clause-more
returns-clause-more c = reached_more
