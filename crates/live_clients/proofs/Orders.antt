-- One client more: started behind the others, or joined behind them.
use Rattle.std.proofs.Common.{◌≡◌, ◌∙◌, ◌+◌, ℕ, List, [], ◌∷◌, ◌++◌, length, map, Option, sym, ap, ap₂, arith, append_assoc, append-nil}
use Rattle.std.proofs.lemmas.List.{map-append}
use Rattle.ft_outside.specs.Outside.{added}
use Rattle.outside_links.specs.Lending.{Target}
use Rattle.iogr_reference.specs.declared.references.GroupRef.{GroupRef}
use Rattle.client_calls.specs.declared.answers.Told.{Told}
use Rattle.live_clients.specs.declared.jobs.ClientJob.{ClientJob}
use Rattle.live_clients.specs.declared.settings.ClientSetting.{ClientSetting}
use Rattle.live_clients.specs.Clients.{AreStarted, AreTold, IsToldBy, Task, client_name, client_task, reference_of, task, task_of, tasks_from, tasks_of}

module _ {D : Type 0} where
  tasks_more : (reference : GroupRef) (calls number : ℕ) (callers : List D) (caller : D)
      → tasks_from reference calls number (callers ++ caller ∷ []) ≡ tasks_from reference calls number callers ++ task (client_name (number + length callers)) reference calls caller ∷ []
  tasks_more reference calls number [] caller =
      let same : number ≡ number + 0 = omega arith in
      ap (λ (n : ℕ). task (client_name n) reference calls caller ∷ []) same
  tasks_more reference calls number (first ∷ callers) caller =
      let same : number + 1 + length callers ≡ number + length (first ∷ callers) = omega arith in
      ap (λ (ts : List (Task D)). task (client_name number) reference calls first ∷ ts)
      (tasks_more reference calls (number + 1) callers caller
      ∙ ap (λ (n : ℕ). tasks_from reference calls (number + 1) callers ++ task (client_name n) reference calls caller ∷ []) same)

  -- a client was started behind those that run
  pub one_started : {R L : Type 0} (setting : ClientSetting) (running more : List (ClientJob R L D)) (job : ClientJob R L D) (number : ℕ) (callers : List D) (caller : D)
      → map task_of running ≡ tasks_of setting callers → number ≡ length callers → more ≡ running ++ job ∷ [] → task_of job ≡ client_task setting number caller
      → map task_of more ≡ tasks_of setting (callers ++ caller ∷ [])
  one_started setting running more job number callers caller so_far at is same =
      let place : number ≡ 0 + length callers = omega (arith, at) in
      ap (map task_of) is ∙ map-append task_of running (job ∷ [])
      ∙ ap₂ (λ (ts : List (Task D)) (t : Task D). ts ++ t ∷ []) so_far (same ∙ ap (λ (n : ℕ). client_task setting n caller) place)
      ∙ sym (tasks_more (reference_of setting) setting.calls 0 callers caller)

  -- the callers so far, one at hand, and those to come
  pub at_hand : (done rest now all : List D) (caller : D) → rest ≡ caller ∷ now → done ++ rest ≡ all → (done ++ caller ∷ []) ++ now ≡ all
  at_hand done rest now all caller is whole = append_assoc done (caller ∷ []) now ∙ ap (λ (xs : List D). done ++ xs) (sym is) ∙ whole

  -- it ended there
  pub ended : (setting : ClientSetting) (done rest all : List D) (tasks : List (Task D)) → done ++ rest ≡ all → tasks ≡ tasks_of setting done → AreStarted setting all tasks
  ended setting done rest all tasks whole is = record { started = done; left = rest; whole = sym whole; tasks_are = is }

  pub all_done : (done rest all : List D) → rest ≡ [] → done ++ rest ≡ all → done ≡ all
  all_done done rest all none whole = sym (append-nil done) ∙ ap (λ (xs : List D). done ++ xs) (sym none) ∙ whole

  module _ (links : D → Option (List (List ℕ))) (targets : D → Option (List Target)) (sent : D → Option (List (List ℕ))) (count : D → ℕ) where
    -- a client was joined behind the others
    pub one_told : (ts : List (Task D)) (tolds : List Told) (t : Task D) (told : Told) (before mid now faults : ℕ) → AreTold links targets sent count ts tolds before mid
        → IsToldBy links targets sent count t told faults → now ≡ added mid faults → AreTold links targets sent count (ts ++ t ∷ []) (tolds ++ told ∷ []) before now
    one_told [] [] t told before mid now faults so_far is counted = (faults, is, counted ∙ ap (λ (n : ℕ). added n faults) so_far)
    one_told [] (u ∷ us) t told before mid now faults so_far is counted = absurd so_far
    one_told (s ∷ ss) [] t told before mid now faults so_far is counted = absurd so_far
    one_told (s ∷ ss) (u ∷ us) t told before mid now faults so_far is counted =
        (so_far.0, so_far.1, one_told ss us t told (added before so_far.0) mid now faults so_far.2 is counted)
