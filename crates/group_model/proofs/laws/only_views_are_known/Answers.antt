use Rattle.group_model.proofs.Versions.{only_views_known, only_views_sent}
use Rattle.group_model.proofs.laws.only_views_are_known.Goals as goal

pub returns-clause-known : goal.returns-clause-known
returns-clause-known c = only_views_known

pub returns-clause-sent : goal.returns-clause-sent
returns-clause-sent c = only_views_sent
