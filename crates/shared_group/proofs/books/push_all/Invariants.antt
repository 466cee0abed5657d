use Rattle.std.proofs.Common.{◌≡◌, ◌+◌, ◌≤◌, ◌++◌, length}
use Rattle.std.specs.VecDeque.{deque_len, deque_capacity}
use Rattle.shared_group.proofs.books.push_all.Given as goal

abbrev pub invariant-loop-sent : goal.invariant-loop-sent
invariant-loop-sent l =
    (l.queue.items ++ l.sent-iterator.rest.items ≡ l.fn.queue.items ++ l.fn.out.items)
    × (deque_len l.queue + length l.sent-iterator.rest.items ≤ deque_capacity l.queue)
