use Rattle.std.proofs.Common.{arith}
use Rattle.std.proofs.lemmas.Result.{err_from_is_err_and}
use Rattle.std.proofs.lemmas.List.Elements.{All-push}
use Rattle.cdr_codec.specs.Formats.{tagged, read_each}
use Rattle.cdr_codec.specs.Calls.{field_fault}
use Rattle.cdr_codec.specs.Tagged.{IsShort}
use Rattle.cdr_codec.proofs.CodecLaws.{goes_on, ends_for, is_done}
use Rattle.cdr_codec.proofs.tagged.read_each.Goals as goal

pub returns-in_err-one-clause-read : goal.returns-in_err-one-clause-read
returns-in_err-one-clause-read g c =
    let read = (tagged g.T.Tagged.made g.T.Tagged.parts).read in
    let p = err_from_is_err_and c.from_residual.result c.from_residual.ensures.1 in
    rw (p.1, p.2)
    (ends_for read c.loop.all.items c.args.count c.loop.counter c.loop.reader (field_fault c.in_err-one.field-0.0)
    (read_each read c.args.count c.args.reader.now) c.loop-test.true c.in_err-one.ensures.read c.loop.invariant.read)

pub loop-preserved : goal.loop-preserved
loop-preserved g c =
    let read = (tagged g.T.Tagged.made g.T.Tagged.parts).read in
    record {
      read = rw c.in_ok-push.ensures.items
          (goes_on read c.loop.all.items c.args.count c.loop.counter c.loop.reader c.in_ok-one.one c.read_tagged.new.reader
          (read_each read c.args.count c.args.reader.now) (omega arith) c.in_ok-one.ensures.read c.loop.invariant.read);
      short = rw c.in_ok-push.ensures.items
          (All-push (IsShort g.T.Tagged.parts) c.loop.all.items c.in_ok-one.one c.loop.invariant.short c.in_ok-one.ensures.short);
    }

pub returns-clause-read : goal.returns-clause-read
returns-clause-read g c =
    let read = (tagged g.T.Tagged.made g.T.Tagged.parts).read in
    is_done read c.loop.all.items c.args.count c.loop.counter c.loop.reader (read_each read c.args.count c.args.reader.now)
    (omega arith) c.loop.invariant.read
