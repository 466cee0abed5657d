use Rattle.group_stands.proofs.Views.{shows, shows_no_other}
use Rattle.group_stands.proofs.viewing.views_are_shown.Goals as goal

pub returns-clause-shown : goal.returns-clause-shown
returns-clause-shown c = shows

pub returns-clause-others : goal.returns-clause-others
returns-clause-others c = shows_no_other
