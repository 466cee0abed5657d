use Rattle.std.proofs.Common.{◌≡◌, ◌+◌, ◌-◌, ◌≤◌, true}
use Rattle.group_model.specs.Plain.{Common, Place}
use Rattle.group_stands.specs.Stands.{LogStands, ReplicaStands}
use Rattle.failover_engine.specs.Catching.{IsAt}
use Rattle.failover_engine.proofs.catching.run_rest.Given as goal

-- for each group for which both stood, the replica is at the position
abbrev pub invariant-loop-at : goal.invariant-loop-at
invariant-loop-at g l =
    let machines = g.S.Servant.machine in
    record {
      at : (c : Common) (place : Place) → LogStands machines c l.fn.log → ReplicaStands machines c l.fn.replica place → place.loaded ≡ true → c.mark ≤ place.position →
          IsAt machines c place l.log l.replica l.at;
      calls : l.steps ≡ l.fn.steps + (l.at - l.first);
      rest : l.log ≡ record l.fn.log { table = l.log.table };
    }
