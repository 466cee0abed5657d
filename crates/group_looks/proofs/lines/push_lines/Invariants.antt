use Rattle.std.proofs.Common.{◌≡◌, ◌++◌}
use Rattle.std.specs.Prelude.{map}
use Rattle.group_looks.specs.Showing.{figure_line}
use Rattle.group_looks.proofs.lines.push_lines.Given as goal

-- the lines so far, and those of the figures that are left
abbrev pub invariant-loop-figure : goal.invariant-loop-figure
invariant-loop-figure l =
    l.report ++ map (figure_line l.fn.style l.fn.view) l.figure-iterator.rest.items ≡ l.fn.report ++ map (figure_line l.fn.style l.fn.view) l.fn.hosts.items
