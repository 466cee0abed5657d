use Rattle.std.proofs.Common.{arith}
use Rattle.log_records.proofs.ValidLaws.{view_finished}
use Rattle.log_records.proofs.writing.view_record.Goals as goal

pub returns-clause-writable : goal.returns-clause-writable
returns-clause-writable c =
    view_finished c.finish.result c.in_ok-writer.writer c.write_view.new.writer c.args.view.now c.in_ok-writer.ensures c.in_ok-write_view.ensures.written
    (omega (arith, c.len-count.ensures.count, c.len-count.ensures.limit)) c.len-count.ensures.different c.finish.ensures.record c.finish.ensures.short
