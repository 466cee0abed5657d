use Rattle.world_management.specs.Creating.{lacking, values_of_kind}
use Rattle.world_management.proofs.CreatingLemmas.{created_taken}
use Rattle.world_management.proofs.creating.create.Goals as goal

pub make_group-requires-clause-taken : goal.make_group-requires-clause-taken
make_group-requires-clause-taken g c =
    created_taken c.args.criteria.now (lacking c.args.criteria.now (values_of_kind c.args.world.now.settings c.args.kind)) c.in_ok-full.full.items c.as_slice-2.result.now c.fit-fit.result
    c.in_ok-why.field-0 c.in_ok-full.ensures c.as_slice-2.ensures.value c.in_ok-why.ensures c.in-None.is
