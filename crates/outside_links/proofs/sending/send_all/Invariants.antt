use Rattle.std.proofs.Common.{◌≡◌, ◌-◌, ◌≤◌, ◌++◌, length, take}
use Rattle.std.specs.Prelude.{option_map}
use Rattle.outside_links.proofs.sending.send_all.Given as goal

-- so far the link gained the front of the text
abbrev pub invariant-loop-done : goal.invariant-loop-done
invariant-loop-done g l =
    (l.done ≤ length l.text)
    × (g.L.Sink.holds l.link ≡ option_map (λ held. held ++ take l.done l.text) (g.L.Sink.holds l.fn.link))
    × (g.L.Link.faults l.link ≡ g.L.Link.faults l.fn.link)
    × (g.L.Source.left l.link ≡ g.L.Source.left l.fn.link)
    × (g.L.Link.closed l.link ≡ g.L.Link.closed l.fn.link)

abbrev pub decreases-loop-done : goal.decreases-loop-done
decreases-loop-done g l = length l.text - l.done
