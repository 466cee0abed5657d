use Rattle.script_groups.proofs.Going.{change_nothing, come_once, failing_lets_come, failing_sound}
use Rattle.script_groups.proofs.laws.failures_come_once.Goals as goal

pub returns-clause-same : goal.returns-clause-same
returns-clause-same c = change_nothing

pub returns-clause-sound : goal.returns-clause-sound
returns-clause-sound c = failing_sound

pub returns-clause-come : goal.returns-clause-come
returns-clause-come c = failing_lets_come

pub returns-clause-once : goal.returns-clause-once
returns-clause-once c = come_once
