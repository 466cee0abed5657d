use Rattle.std.proofs.Common.{◌≡◌, ◌-◌, ◌≤◌, ◌++◌, length, take}
use Rattle.std.specs.Prelude.{option_map}
use Rattle.ft_outside.proofs.wholes.write_all.Given as goal

-- so far the sink gained the front of the text
abbrev pub invariant-loop-done : goal.invariant-loop-done
invariant-loop-done g l =
    (l.done ≤ length l.text)
    × (g.B.Sink.holds l.sink ≡ option_map (λ held. held ++ take l.done l.text) (g.B.Sink.holds l.fn.sink))
    × (g.B.Sink.count l.sink ≡ g.B.Sink.count l.fn.sink)

abbrev pub decreases-loop-done : goal.decreases-loop-done
decreases-loop-done g l = length l.text - l.done
