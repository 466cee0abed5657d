use Rattle.log_records.proofs.ReadingLaws.{is_spelled}
use Rattle.log_records.proofs.reading.record_in.Goals as goal

pub returns-clause-spelled : goal.returns-clause-spelled
returns-clause-spelled c = is_spelled c.args.piece.now c.read_whole.result c.read_whole.ensures.read
