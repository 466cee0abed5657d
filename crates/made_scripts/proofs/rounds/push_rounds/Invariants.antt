use Rattle.std.proofs.Common.{◌≡◌, ◌++◌, ◌<◌, ◌≤◌, ◌*◌, ◌^◌}
use Rattle.made_scripts.specs.Lines.{text_of}
use Rattle.made_scripts.specs.Scripts.{drawn, rounds_lines, sent_in}
use Rattle.made_scripts.proofs.rounds.push_rounds.Given as goal

-- the rounds so far
abbrev pub invariant-loop-round : goal.invariant-loop-round
invariant-loop-round l =
    (l.text.items ≡ l.initial.text.items ++ text_of (rounds_lines l.number l.round))
    × (l.drawn ≡ drawn l.number l.round) × (l.drawn < 2 ^ 32)
    × (l.sent ≡ sent_in l.number l.round) × (l.sent ≤ 5 * l.round)
