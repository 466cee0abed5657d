-- Which faults are counted.
use Rattle.std.proofs.Common.{◌≡◌, ◌≢◌, ◌∙◌, ℕ, Option, Some, None, Ok, Err, refl, sym, ap, subst, inl, inr}
use Rattle.std.specs.Prelude.{◌⊎◌, Result, IfOk, IfErr, IfSome, MatchOption}
use Rattle.live_hosts.specs.declared.starts.StartFault.{StartFault}
use Rattle.live_hosts.specs.declared.starts.StartFault.TheVariants as starts
use Rattle.live_hosts.specs.Posts as posts
use Rattle.live_run.specs.declared.runs.RunFault.{RunFault}
use Rattle.live_run.specs.declared.runs.RunFault.TheVariants as faults
use Rattle.live_run.specs.Faults.{after_binds, after_starts, fault_in, host_fault}

-- a fault of the program's that isn't that of a door
pub no_bind : (fault : RunFault) (count : ℕ) → fault ≢ faults.Bind → after_binds (Some fault) count ≡ count
no_bind faults.Bind count other = absurd (other refl)
no_bind faults.Thread count other = refl
no_bind faults.NoMemory count other = refl

-- nor that of a thread
pub no_thread : (fault : RunFault) (count : ℕ) → fault ≢ faults.Thread → after_starts (Some fault) count ≡ count
no_thread faults.Bind count other = refl
no_thread faults.Thread count other = absurd (other refl)
no_thread faults.NoMemory count other = refl

-- a run was not closed: for the fault of its threads, or for want of memory
abbrev pub IsFaultOf : {B : Type 0} → Result B RunFault → RunFault → Type 0
IsFaultOf served fault = (served ≡ Err fault) ⊎ ((fault ≡ faults.NoMemory) × (fault_in served ≡ None))

module _ {A : Type 0} where
  -- clients were started, and this was the result
  of_clients : (clients : Option RunFault) (result : Result A RunFault) (before now : ℕ) → now ≡ after_starts clients before → IfSome clients (λ why. result ≡ Err why)
      → (clients ≡ None → IfErr result (λ why. why ≡ faults.NoMemory)) → now ≡ after_starts (fault_in result) before
  of_clients (Some why) result before now is told alone = is ∙ ap (λ (r : Result A RunFault). after_starts (fault_in r) before) (sym told)
  of_clients None (Ok a) before now is told alone = is
  of_clients None (Err why) before now is told alone = is ∙ ap (λ (w : RunFault). after_starts (Some w) before) (sym (alone refl))

  -- a host wasn't, and so no client
  of_host : (fault : StartFault) (result : Result A RunFault) (before : ℕ) → result ≡ Err (host_fault fault) → posts.after_starts (Some fault) before ≡ after_starts (fault_in result) before
  of_host starts.Refused result before is = ap (λ (r : Result A RunFault). after_starts (fault_in r) before) (sym is)
  of_host starts.NoMemory result before is = ap (λ (r : Result A RunFault). after_starts (fault_in r) before) (sym is)

  pub starts_counted : (hosts : Option StartFault) (clients : Option RunFault) (result : Result A RunFault) (before mid now : ℕ) → mid ≡ posts.after_starts hosts before
      → MatchOption hosts (now ≡ after_starts clients mid) (λ fault. (now ≡ mid) × (clients ≡ Some (host_fault fault))) → IfSome clients (λ why. result ≡ Err why)
      → (clients ≡ None → IfErr result (λ why. why ≡ faults.NoMemory)) → now ≡ after_starts (fault_in result) before
  starts_counted None clients result before mid now is counts told alone =
      of_clients clients result before now (counts ∙ ap (after_starts clients) is) told alone
  starts_counted (Some fault) clients result before mid now is counts told alone =
      counts.0 ∙ is ∙ of_host fault result before (subst (λ (c : Option RunFault). IfSome c (λ why. result ≡ Err why)) counts.1 told)

  pub never_bind : (clients : Option RunFault) (result : Result A RunFault) → clients ≢ Some faults.Bind → IfSome clients (λ why. result ≡ Err why)
      → (clients ≡ None → IfErr result (λ why. why ≡ faults.NoMemory)) → result ≢ Err faults.Bind
  never_bind (Some why) result other told alone is = other (ap fault_in (sym told ∙ is))
  never_bind None result other told alone is = no (subst (λ (r : Result A RunFault). IfErr r (λ why. why ≡ faults.NoMemory)) is (alone refl))
    where
      no : faults.Bind ≡ faults.NoMemory → ⊥
      no same = cc

  pub run_binds : {B : Type 0} (served : Result B RunFault) (result : Result A RunFault) (before now : ℕ) → now ≡ before → served ≢ Err faults.Bind → IfErr result (IsFaultOf served)
      → now ≡ after_binds (fault_in result) before
  run_binds served (Ok a) before now is other told = is
  run_binds served (Err fault) before now is other (inl told) = is ∙ sym (no_bind fault before (λ same. other (told ∙ ap Err same)))
  run_binds served (Err fault) before now is other (inr short) = is ∙ sym (no_bind fault before (λ same. no (sym short.0 ∙ same)))
    where
      no : faults.NoMemory ≡ faults.Bind → ⊥
      no same = cc

  pub run_starts : {B : Type 0} (served : Result B RunFault) (result : Result A RunFault) (before now : ℕ) → now ≡ after_starts (fault_in served) before → IfOk result (λ _. fault_in served ≡ None)
      → IfErr result (IsFaultOf served) → now ≡ after_starts (fault_in result) before
  run_starts served (Ok a) before now is none told = is ∙ ap (λ (f : Option RunFault). after_starts f before) none
  run_starts {B = B} served (Err fault) before now is none (inl told) = is ∙ ap (λ (r : Result B RunFault). after_starts (fault_in r) before) told
  run_starts served (Err fault) before now is none (inr short) =
      is ∙ ap (λ (f : Option RunFault). after_starts f before) short.1 ∙ ap (λ (f : RunFault). after_starts (Some f) before) (sym short.0)
