use Rattle.std.proofs.Common.{sym, ◌∙◌}
use Rattle.world_turns.proofs.NamingLemmas.{is_there, was_deleted}
use Rattle.world_turns.proofs.naming.standing.Goals as goal

pub returns-then-is_deleted : goal.returns-then-is_deleted
returns-then-is_deleted c = λ g at. was_deleted c.args.world.now c.args.place g at (sym (c.is_deleted.ensures g at) ∙ c.if-is_deleted.true)

pub returns-else-is_deleted : goal.returns-else-is_deleted
returns-else-is_deleted c = λ g at. is_there c.args.world.now c.args.place g at (sym (c.is_deleted.ensures g at) ∙ c.if-is_deleted.false)
