-- What a network counts of clients that came back.
use Rattle.std.proofs.Common.{◌≡◌, ◌≤◌, ◌<◌, ◌+◌, ◌⊎◌, ℕ, List, [], ◌∷◌, Option, sym, subst, arith, inl, inr}
use Rattle.std.proofs.lemmas.Bool.{cases_lt}
use Rattle.ft_outside.specs.Outside.{added}
use Rattle.outside_links.specs.Lending.{Target}
use Rattle.client_calls.specs.declared.answers.Told.{Told}
use Rattle.client_calls.specs.Calls.{HasRisen, faults_of}
use Rattle.live_clients.specs.Clients.{AreNewCallers, AreTold, Task, all_faults}

-- one caller's count, and then those of the others
one_more : (told others before after now count : ℕ) → count ≡ 0 → HasRisen told count after → HasRisen others (added before after) now → HasRisen (told + others) before now
one_more told others before after now count new (inr full) (inr end) = inr end
one_more told others before after now count new (inr full) (inl rose) = inr (omega (arith, full, rose))
one_more told others before after now count new (inl counted) (inr end) = inr end
one_more told others before after now count new (inl counted) (inl rose) = go (cases_lt (before + after) 18446744073709551615)
  where
    go : (before + after < 18446744073709551615) ⊎ (18446744073709551615 ≤ before + after) → HasRisen (told + others) before now
    go (inl room) = inl (omega (arith, new, counted, rose, room))
    go (inr none) = inr (omega (arith, new, counted, rose, none))

module _ {D : Type 0} (links : D → Option (List (List ℕ))) (targets : D → Option (List Target)) (sent : D → Option (List (List ℕ))) (count : D → ℕ) where
  pub all_rise : (ts : List (Task D)) (tolds : List Told) (before now : ℕ) → AreNewCallers count ts → AreTold links targets sent count ts tolds before now
      → HasRisen (all_faults tolds) before now
  all_rise [] [] before now new told = inl (omega (arith, told))
  all_rise [] (u ∷ us) before now new told = absurd told
  all_rise (t ∷ ts) [] before now new told = absurd told
  all_rise (t ∷ ts) (u ∷ us) before now new told =
      let counted = told.1.told_so.counted in
      one_more (faults_of u.calls.items) (all_faults us) before told.0 now (count t.caller) new.0 (subst (λ (n : ℕ). HasRisen (faults_of u.calls.items) (count t.caller) n) (sym told.1.counted) counted)
      (all_rise ts us (added before told.0) now new.1 told.2)
