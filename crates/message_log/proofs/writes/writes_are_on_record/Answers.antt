use Rattle.message_log.proofs.RecordingLaws.{entries_written, views_written, checkpoints_written}
use Rattle.message_log.proofs.WritingLaws.{resumed}
use Rattle.message_log.proofs.writes.writes_are_on_record.Goals as goal

pub returns-clause-opened : goal.returns-clause-opened
returns-clause-opened c = resumed

pub returns-clause-entry : goal.returns-clause-entry
returns-clause-entry c = entries_written c.records_are_read_again.ensures

pub returns-clause-view : goal.returns-clause-view
returns-clause-view c = views_written c.records_are_read_again.ensures

pub returns-clause-checkpoint : goal.returns-clause-checkpoint
returns-clause-checkpoint c = checkpoints_written c.records_are_read_again.ensures
