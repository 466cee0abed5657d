use Rattle.std.proofs.Common.{◌≡◌, ◌++◌, take}
use Rattle.std.specs.Prelude.{map}
use Rattle.group_model.specs.Plain.{Group}
use Rattle.group_core.specs.Cores.{Stands}
use Rattle.group_looks.specs.Looks.{figure_of}
use Rattle.group_looks.proofs.figures.push_members.Given as goal

-- the figures so far
abbrev pub invariant-loop-host : goal.invariant-loop-host
invariant-loop-host g l = (group : Group) → Stands g.S.Servant.machine l.core group
    → l.figures.items ≡ l.fn.figures.items ++ map (figure_of (g.S.Servant.machine group.common.kind) group) (take l.host-index l.host-items)
