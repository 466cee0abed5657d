use Rattle.std.proofs.Common.{arith}
use Rattle.std.proofs.lemmas.Result.{err_from_is_err_and}
use Rattle.cdr_codec.specs.Formats.{read_each}
use Rattle.cdr_codec.specs.Calls.{field_fault}
use Rattle.cdr_codec.proofs.CodecLaws.{goes_on, ends_for, is_done}
use Rattle.reply_table.specs.declared.entries.Retained.{Retained}
use Rattle.log_records.specs.Records.{retained, IsVersion}
use Rattle.log_records.proofs.ValidLaws.{all_push}
use Rattle.log_records.proofs.reading.each_retained.Goals as goal

pub returns-in_err-one-clause-read : goal.returns-in_err-one-clause-read
returns-in_err-one-clause-read c =
    let p = err_from_is_err_and c.from_residual.result c.from_residual.ensures.1 in
    rw (p.1, p.2)
    (ends_for retained.read c.loop.all.items c.args.count c.loop.counter c.loop.reader (field_fault c.in_err-one.field-0.0)
    (read_each retained.read c.args.count c.args.reader.now) c.loop-test.true c.in_err-one.ensures.read c.loop.invariant.0)

pub loop-preserved : goal.loop-preserved
loop-preserved c =
    rw c.in_ok-push.ensures.items (
      goes_on retained.read c.loop.all.items c.args.count c.loop.counter c.loop.reader c.in_ok-one.one c.retained_at.new.reader
          (read_each retained.read c.args.count c.args.reader.now) (omega arith) c.in_ok-one.ensures.read c.loop.invariant.0,
      all_push (λ (e : Retained). IsVersion e.version) c.loop.all.items c.in_ok-one.one c.loop.invariant.1 c.in_ok-one.ensures.range,
    )

pub returns-clause-read : goal.returns-clause-read
returns-clause-read c =
    is_done retained.read c.loop.all.items c.args.count c.loop.counter c.loop.reader (read_each retained.read c.args.count c.args.reader.now)
    (omega arith) c.loop.invariant.0
