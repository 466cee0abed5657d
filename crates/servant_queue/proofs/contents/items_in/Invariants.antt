use Rattle.std.proofs.Common.{◌≡◌, ◌++◌, ◌-◌, ◌*◌, drop}
use Rattle.servant_queue.specs.Queue.{items_in}
use Rattle.servant_queue.proofs.contents.items_in.Given as goal

-- the items found and those still to be found are all
abbrev pub invariant-loop-i : goal.invariant-loop-i
invariant-loop-i l = l.items.items ++ items_in (l.count - l.i) (drop (16 * l.i) l.bytes) ≡ items_in l.count l.bytes
