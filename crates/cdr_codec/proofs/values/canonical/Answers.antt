use Rattle.std.proofs.Common.{map}
use Rattle.ft_base.specs.Canonical.{type_of}
use Rattle.cdr_codec.proofs.ArgumentLaws.{result_spelled}
use Rattle.cdr_codec.proofs.BodyLaws.{is_canonical}
use Rattle.cdr_codec.proofs.values.canonical.Goals as goal

pub returns-clause-canonical : goal.returns-clause-canonical
returns-clause-canonical c =
    is_canonical (map type_of c.args.values.now) c.canonical_exactly.result c.canonical_forms_are_of_values.ensures
    (result_spelled c.args.values.now c.canonical_exactly.result c.requires c.canonical_exactly.ensures)
