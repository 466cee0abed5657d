use Rattle.client_retry.proofs.ClientLaws.{has, stays}
use Rattle.client_retry.proofs.laws.references_stay.Goals as goal

pub returns-clause-started : goal.returns-clause-started
returns-clause-started c = has

pub returns-clause-heard : goal.returns-clause-heard
returns-clause-heard c = stays
