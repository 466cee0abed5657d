use Rattle.std.proofs.lemmas.Result.{err_from_is_err_and}
use Rattle.cdr_codec.specs.Values.{text}
use Rattle.cdr_codec.proofs.Writing.{keeps_after}
use Rattle.iogr_reference.proofs.writing.write_parts.Goals as goal

pub returns-in_err-write_all_tagged-clause-kept : goal.returns-in_err-write_all_tagged-clause-kept
returns-in_err-write_all_tagged-clause-kept c =
    let p = err_from_is_err_and c.from_residual-in_err-write_all_tagged.result c.from_residual-in_err-write_all_tagged.ensures.1 in
    rw p.1
    (keeps_after text.written c.bytes.result.now c.args.writer.now c.write_string.new.self c.write_all_tagged.new.writer
    c.in_ok-write_string.ensures.written c.in_err-write_all_tagged.ensures.kept)
