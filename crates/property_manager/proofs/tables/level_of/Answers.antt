use Rattle.property_manager.proofs.TypeLemmas.{no_level, level_found}
use Rattle.property_manager.proofs.tables.level_of.Goals as goal

pub returns-in-None : goal.returns-in-None
returns-in-None c =
    no_level c.args.type_id.now c.bytes.result.now c.args.types.now.entries c.none.result
    c.bytes.ensures.value c.in-None.ensures.value c.none.ensures

pub returns-in_ok-copy-in-Some : goal.returns-in_ok-copy-in-Some
returns-in_ok-copy-in-Some c =
    level_found c.args.type_id.now c.bytes.result.now c.args.types.now.entries c.in-Some.level.now c.in_ok-copy-in-Some.copy
    c.bytes.ensures.value c.in-Some.ensures.value c.in_ok-copy-in-Some.ensures
