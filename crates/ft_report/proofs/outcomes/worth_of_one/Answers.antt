use Rattle.std.proofs.Common.{[], ◌∷◌}
use Rattle.ft_report.proofs.WorthLemmas.{not_refused, value_found, value_is, value_lacks}
use Rattle.ft_report.proofs.outcomes.worth_of_one.Goals as goal

pub returns-in-Ok-clause-value : goal.returns-in-Ok-clause-value
returns-in-Ok-clause-value c =
    value_found c.args.par c.args.bytes.now c.new-reader.result c.read_value.new.reader c.in-Ok.value c.printed_value.result
    c.new-reader.ensures c.in-Ok.ensures c.printed_value.ensures

pub returns-in-Ok-clause-worth : goal.returns-in-Ok-clause-worth
returns-in-Ok-clause-worth c = λ canonical.
    value_is c.args.par c.args.bytes.now c.new-reader.result c.read_value.new.reader c.in-Ok.value c.printed_value.result
    (c.canonical_forms_are_read.ensures (c.args.par ∷ []) c.args.bytes.now canonical)
    c.new-reader.ensures c.in-Ok.ensures c.printed_value.ensures

pub returns-in-Err-Bad-clause-worth : goal.returns-in-Err-Bad-clause-worth
returns-in-Err-Bad-clause-worth c = λ canonical.
    absurd (not_refused c.args.par c.args.bytes.now c.new-reader.result c.in-Err-Bad.field-0 c.in-Err-Bad.field-0-0
    (c.canonical_forms_are_read.ensures (c.args.par ∷ []) c.args.bytes.now canonical)
    c.new-reader.ensures c.in-Err-Bad.field-0-is c.in-Err-Bad.ensures)

pub returns-in-Err-Bad-clause-value : goal.returns-in-Err-Bad-clause-value
returns-in-Err-Bad-clause-value c =
    value_lacks c.args.par c.args.bytes.now c.new-reader.result c.in-Err-Bad.field-0 c.in-Err-Bad.field-0-0 c.new-reader.ensures
    c.in-Err-Bad.field-0-is c.in-Err-Bad.ensures
