use Rattle.cdr_codec.proofs.arguments.one_form.Goals as goal

pub returns-in-Some-I64 : goal.returns-in-Some-I64
returns-in-Some-I64 c = let i = c.in-Some-I64 in rw i.is (rw (rw i.is at i.field-0-is) c.number_form.ensures)
