use Rattle.script_clients.proofs.IdLaws.{begin, go_on, stay}
use Rattle.script_clients.proofs.laws.ids_go_on.Goals as goal

pub returns-clause-started : goal.returns-clause-started
returns-clause-started c = begin c.ids_go_on.ensures.started

pub returns-clause-went_on : goal.returns-clause-went_on
returns-clause-went_on c = go_on c.ids_go_on.ensures.heard

pub returns-clause-taken : goal.returns-clause-taken
returns-clause-taken c = stay c.ids_go_on.ensures.set_down
