use Rattle.log_records.proofs.ValidLaws.{entry_text, entry_finished}
use Rattle.log_records.proofs.writing.entry_record.Goals as goal

pub returns-clause-writable : goal.returns-clause-writable
returns-clause-writable c =
    entry_finished c.finish.result c.in_ok-writer.writer c.write_entry.new.writer c.args.position c.args.version c.args.at c.args.request.now c.in_ok-writer.ensures
    c.in_ok-write_entry.ensures.written c.in_ok-write_entry.ensures.tick c.in_ok-write_entry.ensures.valid c.finish.ensures.record c.finish.ensures.short

pub returns-clause-written : goal.returns-clause-written
returns-clause-written c =
    entry_text c.finish.result c.in_ok-writer.writer c.write_entry.new.writer (record { position = c.args.position; version = c.args.version; at = c.args.at; request = c.args.request.now })
    c.in_ok-writer.ensures c.in_ok-write_entry.ensures.written c.finish.ensures.record
