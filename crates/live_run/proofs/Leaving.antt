-- What is left once all hosts and clients have ended.
use Rattle.std.proofs.Common.{◌≡◌, ◌∙◌, ℕ, false, List, [], ◌++◌, Option, Some, None, Result, Ok, Err, Vec, Global, refl, sym, ap, subst, append-nil, inl, true≢false}
use Rattle.std.specs.Prelude.{◌==◌, IfOk}
use Rattle.std.proofs.lemmas.List.Elements.{filter-append}
use Rattle.ft_base.specs.declared.memory.NoMemory.{NoMemory}
use Rattle.ft_base.specs.declared.views.View.{View}
use Rattle.outside_links.specs.Lending.{Target}
use Rattle.iogr_reference.specs.declared.references.GroupRef.{GroupRef}
use Rattle.iogr_reference.specs.Views.{group_of_view}
use Rattle.hist_lock.specs.Histories.{turns_by}
use Rattle.hist_lock.specs.Passes.{IsOf, own_turns}
use Rattle.group_model.specs.Openings.{first_view}
use Rattle.shared_group.specs.Turns.{GroupPass, SharedValue}
use Rattle.client_calls.specs.declared.answers.Told.{Told}
use Rattle.live_words.specs.declared.asking.LiveWords.{LiveWords}
use Rattle.live_clients.specs.Clients.{AreTold, Task, tasks_from}
use Rattle.live_hosts.specs.Posts.{HasSeenMore}
use Rattle.live_monitor.specs.declared.states.Kill.{Kill}
use Rattle.live_monitor.specs.Monitored.{AreMonitors, Errand, GroupTurn, IsMonitored, NoneFinds}
use Rattle.live_group.specs.Opening.{first_hosts}
use Rattle.live_group.specs.declared.opening.TheConstants.{GROUP}
use Rattle.live_run.specs.declared.runs.RunFault.{RunFault}
use Rattle.live_run.specs.Runs.{first_reference, kill_of, type_name}
use Rattle.live_run.specs.Serving.{HasWatched}

-- ---- the monitor

-- it has had no turn yet
pub nothing_yet : (kill : Option Kill) → IsMonitored (record { kill = kill; killed = false }) []
unfolding AreMonitors
nothing_yet kill = record { each = tt; waits = λ no. (none kill, tt); killed = λ yes. absurd (true≢false (sym yes)) }
  where
    none : (k : Option Kill) → NoneFinds k []
    none None = tt
    none (Some k) = tt

-- a pass has no turn more by what it takes in
own_stay : (old new : GroupPass) → HasSeenMore old new → own_turns new ≡ own_turns old
own_stay old new more =
    let n = old.number in
    ap (λ (m : ℕ). turns_by m new.seen) more.number ∙ ap (λ (l : List GroupTurn). turns_by n l) more.seen.1
    ∙ filter-append (λ (t : GroupTurn). t.number == n) old.seen more.seen.0 ∙ ap (λ (l : List GroupTurn). turns_by n old.seen ++ l) (more.seen.2 n (inl refl)) ∙ append-nil (turns_by n old.seen)

pub has_watched : (live : LiveWords) (group : SharedValue) (errand : Errand) (old new : GroupPass) → IsOf group.lock new → HasSeenMore old new → old.number ≡ 0 → errand.kill ≡ kill_of live
    → IsMonitored errand (own_turns old) → HasWatched live errand group new
has_watched live group errand old new own more zero kill is = record {
  own = own;
  number = more.number ∙ zero;
  kill = kill;
  monitored = subst (IsMonitored errand) (sym (own_stay old new more)) is;
}

-- ---- the clients

pub reference_is : (live : LiveWords) (type : List ℕ) (view : View) (ports : List ℕ) → type ≡ type_name → view ≡ first_view live.style (first_hosts live.hosts)
    → group_of_view GROUP type view ports ≡ first_reference live ports
reference_is live type view ports named first =
    ap (λ (t : List ℕ). group_of_view GROUP t view ports) named ∙ ap (λ (v : View). group_of_view GROUP type_name v ports) first

module _ {D : Type 0} (links : D → Option (List (List ℕ))) (targets : D → Option (List Target)) (sent : D → Option (List (List ℕ))) (count : D → ℕ) where
  -- where nothing kept a client from its end, all were told what their tasks owe
  pub told_tasks : (live : LiveWords) (ports : List ℕ) (reference : GroupRef) (callers : List D) (fault : Option RunFault) (running : List (Task D)) (joined : Result (Vec Told Global) NoMemory)
      (result : Result (Vec Told Global) RunFault) (before now : ℕ) → IfOk result (λ all. (fault ≡ None) × (joined ≡ Ok all))
      → IfOk joined (λ tolds. AreTold links targets sent count running tolds.items before now) → (fault ≡ None → running ≡ tasks_from reference live.calls 0 callers) → reference ≡ first_reference live ports
      → IfOk result (λ tolds. AreTold links targets sent count (tasks_from (first_reference live ports) live.calls 0 callers) tolds.items before now)
  told_tasks live ports reference callers fault running joined (Err why) before now ok told tasks is = tt
  told_tasks live ports reference callers fault running joined (Ok all) before now ok told tasks is =
      subst (λ (ts : List (Task D)). AreTold links targets sent count ts all.items before now) (tasks ok.0 ∙ ap (λ (r : GroupRef). tasks_from r live.calls 0 callers) is)
      (subst (λ (j : Result (Vec Told Global) NoMemory). IfOk j (λ tolds. AreTold links targets sent count running tolds.items before now)) ok.1 told)
