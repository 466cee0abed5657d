use Rattle.group_stands.proofs.Reopens.{logs_reopened}
use Rattle.group_stands.proofs.resuming.logs_are_reopened.Goals as goal

pub returns : goal.returns
returns c = logs_reopened c.writes_are_on_record.ensures.opened
