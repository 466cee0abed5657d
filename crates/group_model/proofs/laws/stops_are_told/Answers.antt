use Rattle.group_model.proofs.Answering.{stops_are_told}
use Rattle.group_model.proofs.laws.stops_are_told.Goals as goal

pub returns : goal.returns
returns c = stops_are_told
