use Rattle.ft_base.specs.Canonical.{one_of}
use Rattle.cdr_codec.proofs.ArgumentLaws.{reordered_known, result_reordered}
use Rattle.cdr_codec.proofs.Lengths.{result_sized}
use Rattle.cdr_codec.proofs.arguments.result_in.Goals as goal

pub result_exactly-requires-clause-known : goal.result_exactly-requires-clause-known
result_exactly-requires-clause-known c =
    let pars = one_of c.args.gives in
    reordered_known pars c.args.value.now ((c.canonical_forms_are_of_values.ensures pars 0 c.args.value.now).0 c.requires.canonical)

pub returns-clause-spelled : goal.returns-clause-spelled
returns-clause-spelled c =
    let pars = one_of c.args.gives in
    result_reordered c.args.order pars c.args.value.now c.result_exactly.result ((c.canonical_forms_are_of_values.ensures pars 0 c.args.value.now).0 c.requires.canonical) c.result_exactly.ensures

pub returns-clause-sized : goal.returns-clause-sized
returns-clause-sized c =
    let pars = one_of c.args.gives in
    result_sized c.args.order pars c.args.value.now c.result_exactly.result ((c.canonical_forms_are_of_values.ensures pars 0 c.args.value.now).0 c.requires.canonical) c.result_exactly.ensures
