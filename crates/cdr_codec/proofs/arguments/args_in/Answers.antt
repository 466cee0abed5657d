use Rattle.cdr_codec.specs.Reading.{reader_at}
use Rattle.cdr_codec.specs.Arguments.{pars_of}
use Rattle.cdr_codec.proofs.ArgumentLaws.{formed_spelled, args_are, empty_rest}
use Rattle.cdr_codec.proofs.arguments.args_in.Goals as goal

pub returns-then-is_empty-clause-exact : goal.returns-then-is_empty-clause-exact
returns-then-is_empty-clause-exact c =
    args_are (pars_of c.args.signature.now) (reader_at c.args.order c.args.align c.args.input.now) c.form_of.new.reader c.in-Ok.args
    (λ i. (c.type_inv.input i).fits) (rw c.new-reader.ensures at c.in-Ok.ensures) (empty_rest c.rest.result.now c.form_of.new.reader.rest c.is_empty.result c.rest.ensures c.is_empty.ensures c.if-is_empty.true)

pub returns-then-is_empty-clause-values : goal.returns-then-is_empty-clause-values
returns-then-is_empty-clause-values c =
    formed_spelled (pars_of c.args.signature.now) (reader_at c.args.order c.args.align c.args.input.now) c.form_of.new.reader c.in-Ok.args
    (λ i. (c.type_inv.input i).fits) (rw c.new-reader.ensures at c.in-Ok.ensures)
