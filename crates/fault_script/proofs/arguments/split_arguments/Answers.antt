use Rattle.std.proofs.Common.{List, subst, sym}
use Rattle.ft_base.specs.Canonical.{AreOf, IsCanonical}
use Rattle.ft_base.specs.declared.requests.Par.{Par}
use Rattle.ft_base.specs.declared.values.Value.{Value}
use Rattle.fault_script.specs.Arguments.{parameters}
use Rattle.fault_script.proofs.ArgumentLemmas.{arguments_typed, all_spelled, types_are}
use Rattle.fault_script.proofs.arguments.split_arguments.Goals as goal

pub canonical-requires : goal.canonical-requires
canonical-requires c =
    let pars = parameters c.args.signature in
    let typed : AreOf pars c.as_slice.result.now =
    subst (λ (vs : List Value). AreOf pars vs) (sym c.as_slice.ensures.value)
    (arguments_typed pars c.args.words.now c.in-Ok.rest.now c.new-values.result.items c.take_arguments.new.values.items c.new-values.ensures.items c.in-Ok.ensures) in
    all_spelled pars c.as_slice.result.now typed

pub returns-in-Ok-canonical-clause-canonical : goal.returns-in-Ok-canonical-clause-canonical
returns-in-Ok-canonical-clause-canonical c =
    let pars = parameters c.args.signature in
    let typed : AreOf pars c.as_slice.result.now =
    subst (λ (vs : List Value). AreOf pars vs) (sym c.as_slice.ensures.value)
    (arguments_typed pars c.args.words.now c.in-Ok.rest.now c.new-values.result.items c.take_arguments.new.values.items c.new-values.ensures.items c.in-Ok.ensures) in
    subst (λ (ps : List Par). IsCanonical ps c.in-Ok-canonical.args) (types_are pars c.as_slice.result.now typed) c.in-Ok-canonical.ensures.canonical
