use Rattle.std.proofs.Common.{◌≡◌, ◌++◌, drop}
use Rattle.live_lines.specs.Lines.{Replied, told_lines}
use Rattle.live_lines.proofs.clients.push_told_lines.Given as goal

-- what is written, and the clients that are to come
abbrev pub invariant-loop-client : goal.invariant-loop-client
invariant-loop-client g l = (replied : Replied) → g.R.Replies.holds l.replies replied
    → l.text.items ++ told_lines replied l.client (drop l.client l.tolds) ≡ l.initial.text.items ++ told_lines replied 0 l.tolds
