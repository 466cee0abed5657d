-- A run that came to its end.
use Rattle.std.proofs.Common.{◌≡◌, ℕ, List, Option, Result, Ok, Err, Vec, Global, map, sym, subst}
use Rattle.std.specs.Prelude.{IfOk}
use Rattle.std.specs.Arc.{arc_value}
use Rattle.outside_links.specs.Lending.{Target}
use Rattle.client_calls.specs.declared.answers.Told.{Told}
use Rattle.client_calls.specs.Calls.{HasRisen}
use Rattle.shared_group.specs.Turns.{GroupPass, SharedValue}
use Rattle.live_words.specs.declared.asking.LiveWords.{LiveWords}
use Rattle.live_clients.specs.Clients.{AreNewCallers, AreTold, Task, all_faults, tasks_from}
use Rattle.live_hosts.specs.Laws.{StaysEndedInTheWhole}
use Rattle.live_monitor.specs.Monitored.{Errand}
use Rattle.live_net.specs.Callers.{AreCallers, HaveLinksInOrder}
use Rattle.live_group.specs.Closing.{IsClosed}
use Rattle.live_run.specs.declared.runs.RunEnd.{RunEnd}
use Rattle.live_run.specs.declared.runs.RunFault.{RunFault}
use Rattle.live_run.specs.declared.stations.Setup.{Setup}
use Rattle.live_run.specs.Runs.{IsRun, Network, account, first_reference}
use Rattle.live_run.specs.Serving.{HasWatched, HaveServed, IsOpen, IsReady}
use Rattle.live_run.proofs.Ending.{group_run}
use Rattle.live_run.proofs.Telling.{AreUnused, clients_told}

pub ready_as : {A D : Type 0} (live : LiveWords) (setup : Setup A D) → IsReady live setup → IsReady setup.live setup
ready_as live setup ready = subst (λ (l : LiveWords). IsReady l setup) (sym ready.live_is) ready

module _ {A D : Type 0} (links : D → Option (List (List ℕ))) (targets : D → Option (List Target)) (sent : D → Option (List (List ℕ))) (count : D → ℕ) (lent : D → Option ℕ) where
  pub run_done : StaysEndedInTheWhole → HaveLinksInOrder
      → ((tasks : List (Task D)) (tolds : List Told) (before now : ℕ) → AreNewCallers count tasks → AreTold links targets sent count tasks tolds before now → HasRisen (all_faults tolds) before now)
      → (live : LiveWords) (setup : Setup A D) (group : SharedValue) (main : GroupPass) (errand : Errand) (tolds : Result (Vec Told Global) RunFault) (result : Result RunEnd RunFault)
      (before after : Network) (mid : ℕ) (now : Option (List (List (List ℕ)))) → IsReady live setup → mid ≡ before.broken → group ≡ arc_value setup.opened.group
      → AreCallers before.callers now (map links setup.station.callers.items) → AreUnused links targets sent count lent setup.station.callers.items
      → IfOk tolds (λ _. HaveServed setup.live.hosts main) → HasWatched setup.live errand group main
      → IfOk tolds (λ all. AreTold links targets sent count (tasks_from (first_reference setup.live setup.station.ports) setup.live.calls 0 setup.station.callers.items) all.items mid after.broken)
      → IfOk result (λ end. (tolds ≡ Ok end.tolds) × IsClosed account group.lock main errand.kill end.core) → IfOk result (λ end. IsRun live before after end.tolds.items end.core)
  run_done law order counts live setup group main errand tolds (Err fault) before after mid now ready same is callers unused served watched told closed = tt
  run_done law order counts live setup group main errand tolds (Ok end) before after mid now ready same is callers unused served watched told closed =
      subst (λ (l : LiveWords). IsRun l before after end.tolds.items end.core) ready.live_is done
    where
      own : IsReady setup.live setup
      own = ready_as live setup ready

      shared : IsOpen setup.live group setup.opened.main
      shared = subst (λ (v : SharedValue). IsOpen setup.live v setup.opened.main) (sym is) own.group

      have_served : HaveServed setup.live.hosts main
      have_served = subst (λ (t : Result (Vec Told Global) RunFault). IfOk t (λ _. HaveServed setup.live.hosts main)) closed.0 served

      tasks : List (Task D)
      tasks = tasks_from (first_reference setup.live setup.station.ports) setup.live.calls 0 setup.station.callers.items

      have_told : AreTold links targets sent count tasks end.tolds.items before.broken after.broken
      have_told = subst (λ (n : ℕ). AreTold links targets sent count tasks end.tolds.items n after.broken) same
          (subst (λ (t : Result (Vec Told Global) RunFault). IfOk t (λ all. AreTold links targets sent count tasks all.items mid after.broken)) closed.0 told)

      done : IsRun setup.live before after end.tolds.items end.core
      done = record {
        group = group_run law setup.live group setup.opened.main main errand end.core shared have_served watched closed.1;
        clients = clients_told links targets sent count lent order counts setup.live setup.station.ports before after now setup.station.callers.items end.tolds.items own.callers callers unused have_told;
      }
