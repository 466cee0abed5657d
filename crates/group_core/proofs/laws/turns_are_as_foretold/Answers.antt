use Rattle.group_core.proofs.Foretold.{as_foretold, short_as_foretold}
use Rattle.group_core.proofs.laws.turns_are_as_foretold.Goals as goal

pub returns-clause-turn : goal.returns-clause-turn
returns-clause-turn c = as_foretold

pub returns-clause-short : goal.returns-clause-short
returns-clause-short c = short_as_foretold c.logs_tell.ensures.tell
