use Rattle.std.proofs.Common.{arith}
use Rattle.servant_queue.proofs.States.{joined_sound}
use Rattle.servant_queue.proofs.queues.Queue.join.Goals as goal

pub invariant_of-self : goal.invariant_of-self
invariant_of-self c =
    joined_sound _ _ c.min-gone.result c.advance.new.items.items c.self.invariant c.later.invariant c.in-Ok.ensures.ok
    (let all = c.len-length.ensures in let more = c.len.ensures in let few = c.if-length-gone-gt-ITEM_LIMIT.false in omega (arith, all, more, few))
