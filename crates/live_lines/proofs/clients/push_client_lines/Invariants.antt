use Rattle.std.proofs.Common.{◌≡◌, ◌+◌, ◌++◌, drop}
use Rattle.live_lines.specs.Lines.{Replied, client_lines, numbered_texts, told_call_line}
use Rattle.live_lines.proofs.clients.push_client_lines.Given as goal

-- what is written, and the calls that are to come
abbrev pub invariant-loop-place : goal.invariant-loop-place
invariant-loop-place g l = (replied : Replied) → g.R.Replies.holds l.replies replied
    → l.text.items ++ numbered_texts (told_call_line replied l.client) (l.place + 1) (drop l.place l.told.calls.items) ≡ l.initial.text.items ++ client_lines replied l.client l.told
