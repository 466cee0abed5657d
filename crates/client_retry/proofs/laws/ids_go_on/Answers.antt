use Rattle.client_retry.proofs.ClientLaws.{begin, go_on, stay}
use Rattle.client_retry.proofs.laws.ids_go_on.Goals as goal

pub returns-clause-started : goal.returns-clause-started
returns-clause-started c = begin

pub returns-clause-heard : goal.returns-clause-heard
returns-clause-heard c = go_on

pub returns-clause-set_down : goal.returns-clause-set_down
returns-clause-set_down c = stay
