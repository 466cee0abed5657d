use Rattle.std.proofs.Common.{◌≡◌, ℕ, ◌+◌, List}
use Rattle.group_model.specs.Plain.{Common, Place}
use Rattle.active_sequencer.specs.Orders.{CanRun}
use Rattle.active_sequencer.proofs.Running.{IsUnderway}
use Rattle.active_sequencer.proofs.ordering.run_held.Given as goal

-- so many were run, for each host whose orders they are
abbrev pub invariant-loop-done : goal.invariant-loop-done
invariant-loop-done g l =
    let machines = g.S.Servant.machine in
    record {
      way : (c : Common) (place : Place) (holdback : List ℕ) → CanRun machines c place holdback l.orders l.fn.replica → IsUnderway machines c place holdback l.replica l._done;
      calls : l.steps ≡ l.fn.steps + l._done;
    }
