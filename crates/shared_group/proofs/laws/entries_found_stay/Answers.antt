use Rattle.shared_group.proofs.Finding.{found_stay, last_found, looks_answered}
use Rattle.shared_group.proofs.laws.entries_found_stay.Goals as goal

pub returns-clause-answered : goal.returns-clause-answered
returns-clause-answered g c = looks_answered g.S.Servant.machine

pub returns-clause-stay : goal.returns-clause-stay
returns-clause-stay g c = found_stay g.S.Servant.machine c.cores_tell.ensures c.steps_go_on.ensures.grow

pub returns-clause-last : goal.returns-clause-last
returns-clause-last g c = last_found g.S.Servant.machine c.cores_tell.ensures
