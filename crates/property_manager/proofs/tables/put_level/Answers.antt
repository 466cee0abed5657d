use Rattle.property_manager.proofs.TypeLemmas.{level_put}
use Rattle.property_manager.proofs.tables.put_level.Goals as goal

pub returns-in-Ok-clause-put : goal.returns-in-Ok-clause-put
returns-in-Ok-clause-put c =
    level_put c.args.types.now.entries c.insert.new.self.entries c.in_ok-id.id c.args.type_id.now c.bytes.result.now c.args.level
    c.bytes.ensures.value c.in_ok-id.ensures.items c.in-Ok.ensures.entries
