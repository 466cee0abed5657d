use Rattle.std.proofs.Common.{◌∙◌, ap}
use Rattle.cdr_codec.specs.Calls.{Writer, appended}
use Rattle.sys_faults.specs.Bodies.{told, told_of}
use Rattle.sys_faults.proofs.writing.write_exactly.Goals as goal

pub returns-clause-written : goal.returns-clause-written
returns-clause-written c =
    c.finish.ensures
    ∙ ap (λ (w : Writer). w.text) (c.in_ok-write_fields.ensures.written ∙ ap (appended told.written (told_of c.args.fault.now)) c.new-writer.ensures)
