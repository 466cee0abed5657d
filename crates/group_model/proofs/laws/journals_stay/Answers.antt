use Rattle.group_model.proofs.Turning.{journals_stay, none_runs_ahead}
use Rattle.group_model.proofs.laws.journals_stay.Goals as goal

pub returns-clause-once : goal.returns-clause-once
returns-clause-once c = journals_stay c.requests_join.ensures.journal

pub returns-clause-ran : goal.returns-clause-ran
returns-clause-ran c = none_runs_ahead
