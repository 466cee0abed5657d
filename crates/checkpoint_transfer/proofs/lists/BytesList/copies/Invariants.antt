use Rattle.std.proofs.Common.{◌≡◌, replicate}
use Rattle.checkpoint_transfer.proofs.lists.BytesList.copies.Given as goal

-- there are as many copies as turns
abbrev pub invariant-loop-number : goal.invariant-loop-number
invariant-loop-number l = l.items.items ≡ replicate l._number l.bytes
