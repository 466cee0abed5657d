use Rattle.cdr_codec.proofs.EncapsulationLaws.{is_opened_by, is_unopened_by}
use Rattle.cdr_codec.proofs.encapsulations.open_encapsulation.Goals as goal

pub returns-clause-found : goal.returns-clause-found
returns-clause-found c = is_opened_by c.args.piece.now c.open_exactly.result c.open_exactly.ensures

pub returns-clause-refused : goal.returns-clause-refused
returns-clause-refused c = is_unopened_by c.args.piece.now c.open_exactly.result c.open_exactly.ensures
