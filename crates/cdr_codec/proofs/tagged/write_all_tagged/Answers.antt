use Rattle.std.proofs.Common.{◌∙◌, ap, sym, length}
use Rattle.std.proofs.lemmas.Result.{err_from_is_err_and}
use Rattle.cdr_codec.specs.Formats.{number, tagged}
use Rattle.cdr_codec.specs.Calls.{appended_each}
use Rattle.cdr_codec.proofs.Writing.{sequence_written, keeps_after}
use Rattle.cdr_codec.proofs.tagged.write_all_tagged.Goals as goal

pub returns-clause-written : goal.returns-clause-written
returns-clause-written g c =
    let written = (tagged g.T.Tagged.made g.T.Tagged.parts).written in
    c.in_ok-write_each.ensures.written ∙ ap (appended_each written c.args.all.now) c.in_ok-write_u32.ensures.written
    ∙ sym (sequence_written written c.args.all.now c.args.writer.now)

pub returns-in_err-write_each-clause-kept : goal.returns-in_err-write_each-clause-kept
returns-in_err-write_each-clause-kept g c =
    let p = err_from_is_err_and c.from_residual-in_err-write_each.result c.from_residual-in_err-write_each.ensures.1 in
    rw p.1
    (keeps_after (number 4).written (length c.args.all.now) c.args.writer.now c.write_u32.new.self c.write_each.new.writer
    c.in_ok-write_u32.ensures.written c.in_err-write_each.ensures.kept)
