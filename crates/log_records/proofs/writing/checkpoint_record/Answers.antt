use Rattle.reply_table.specs.Entries.{unexpired}
use Rattle.log_records.proofs.ValidLaws.{checkpoint_finished}
use Rattle.log_records.proofs.writing.checkpoint_record.Goals as goal

pub returns-clause-writable : goal.returns-clause-writable
returns-clause-writable c =
    let wrote = c.in_ok-write_checkpoint.ensures in
    checkpoint_finished c.finish.result c.in_ok-writer.writer c.write_checkpoint.new.writer c.args.mark c.args.time c.args.state.now
    (unexpired c.args.time.0 c.args.table.now.entries) c.in_ok-writer.ensures wrote.written wrote.tick wrote.state wrote.count wrote.valid c.finish.ensures.record
    c.finish.ensures.short
