use Rattle.std.proofs.Common.{[], ◌∷◌}
use Rattle.cdr_codec.specs.Calls.{fault}
use Rattle.cdr_codec.proofs.ArgumentLaws.{values_are, never_refused}
use Rattle.cdr_codec.proofs.values.read_one.Goals as goal

pub unreachable-requires : goal.unreachable-requires
unreachable-requires c =
    let pars = c.args.par ∷ [] in
    never_refused pars c.args.bytes.now ((c.canonical_forms_are_of_values.ensures pars 0 c.args.bytes.now).0 c.requires.canonical) (fault c.in-Err-Bad.field-0-0)
    (rw c.in-Err-Bad.field-0-is at (rw c.new-reader.ensures at c.in-Err-Bad.ensures))

pub returns-in-Ok-clause-typed : goal.returns-in-Ok-clause-typed
returns-in-Ok-clause-typed c =
    let pars = c.args.par ∷ [] in
    (values_are pars c.args.bytes.now ((c.canonical_forms_are_of_values.ensures pars 0 c.args.bytes.now).0 c.requires.canonical) (c.in-Ok.value ∷ []) c.one_at.new.reader
    (rw c.new-reader.ensures at c.in-Ok.ensures)).0

pub returns-in-Ok-clause-spelled : goal.returns-in-Ok-clause-spelled
returns-in-Ok-clause-spelled c =
    let pars = c.args.par ∷ [] in
    (values_are pars c.args.bytes.now ((c.canonical_forms_are_of_values.ensures pars 0 c.args.bytes.now).0 c.requires.canonical) (c.in-Ok.value ∷ []) c.one_at.new.reader
    (rw c.new-reader.ensures at c.in-Ok.ensures)).1
