use Rattle.iogr_reference.proofs.ViewLaws.{views_are_named, views_are_read}
use Rattle.iogr_reference.proofs.laws.views_are_named.Goals as goal

pub returns : goal.returns
returns c = record { named = views_are_named; read = views_are_read }
