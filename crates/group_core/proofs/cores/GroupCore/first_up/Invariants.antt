use Rattle.std.proofs.Common.{◌≡◌, drop}
use Rattle.group_model.specs.Agreeing.{first_up}
use Rattle.group_model.specs.Plain.{Group}
use Rattle.group_core.specs.Cores.{Stands}
use Rattle.group_core.proofs.cores.GroupCore.first_up.Given as goal

-- none so far is up
abbrev pub invariant-loop-host : goal.invariant-loop-host
invariant-loop-host g l = (group : Group) → Stands g.S.Servant.machine l.self group → first_up group.hosts l.hosts ≡ first_up group.hosts (drop l.host-index l.hosts)
