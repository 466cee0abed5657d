use Rattle.std.proofs.Common.{◌∙◌, [], ap, sym}
use Rattle.cdr_codec.specs.declared.orders.Order.TheVariants.{Big}
use Rattle.cdr_codec.specs.Arguments.{written_value}
use Rattle.cdr_codec.specs.Calls.{Writer, appended_each}
use Rattle.cdr_codec.proofs.Writing.{each_written}
use Rattle.cdr_codec.proofs.ArgumentLaws.{each_value_written}
use Rattle.cdr_codec.proofs.values.canonical_exactly.Goals as goal

pub returns : goal.returns
returns c =
    c.finish.ensures ∙ ap (λ (w : Writer). w.text) (c.in_ok-write_values.ensures ∙ ap (appended_each written_value c.args.values.now) c.new-writer.ensures)
    ∙ ap (λ (w : Writer). w.text) (sym (each_written written_value c.args.values.now (record { order = Big; place = 0; text = [] })))
    ∙ each_value_written c.args.values.now 0
