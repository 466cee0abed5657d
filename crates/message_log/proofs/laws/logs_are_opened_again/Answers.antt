use Rattle.message_log.proofs.WritingLaws.{resumed, never_bad, keeps_replies}
use Rattle.message_log.proofs.laws.logs_are_opened_again.Goals as goal

pub returns-clause-resumed : goal.returns-clause-resumed
returns-clause-resumed g c = resumed c.args.log.now c.is_written_down.ensures

pub returns-clause-not_bad : goal.returns-clause-not_bad
returns-clause-not_bad g c = never_bad c.args.log.now c.is_written_down.ensures

pub returns-clause-replies : goal.returns-clause-replies
returns-clause-replies g c = keeps_replies c.args.log.now c.is_written_down.ensures
