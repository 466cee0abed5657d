use Rattle.std.proofs.Common.{◌≡◌, ◌++◌, drop}
use Rattle.std.specs.List.{concat}
use Rattle.servant_queue.proofs.contents.append_items.Given as goal

-- what is written and what is still to be written are the whole
abbrev pub invariant-loop-i : goal.invariant-loop-i
invariant-loop-i l = l.text.items ++ concat (drop l.i l.items.items) ≡ l.fn.text.items ++ concat (drop l.first l.items.items)
