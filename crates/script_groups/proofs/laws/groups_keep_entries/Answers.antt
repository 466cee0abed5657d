use Rattle.script_groups.proofs.Going.{accept_once, grow, replies_stay}
use Rattle.script_groups.proofs.laws.groups_keep_entries.Goals as goal

pub returns-clause-grow : goal.returns-clause-grow
returns-clause-grow c = grow c.groups_grow.ensures.grow

pub returns-clause-replies : goal.returns-clause-replies
returns-clause-replies c = replies_stay c.groups_grow.ensures.replies

pub returns-clause-once : goal.returns-clause-once
returns-clause-once c = accept_once c.journals_stay.ensures.once
