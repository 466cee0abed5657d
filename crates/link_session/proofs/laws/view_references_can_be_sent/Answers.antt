use Rattle.link_session.proofs.References.{views_can_be_sent}
use Rattle.link_session.proofs.laws.view_references_can_be_sent.Goals as goal

pub returns : goal.returns
returns c = views_can_be_sent
