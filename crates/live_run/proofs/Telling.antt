-- What the clients of a run were told.
use Rattle.std.proofs.Common.{◌≡◌, ◌∙◌, ℕ, ◌+◌, zero, suc, List, [], ◌∷◌, map, length, Option, Some, None, refl, ap, subst, arith}
use Rattle.std.specs.Prelude.{slice_get, IfSome, option_map}
use Rattle.std.specs.List.{AllByRecursion}
use Rattle.std.proofs.lemmas.Option.{slice_get-map}
use Rattle.outside_links.specs.Lending.{Target}
use Rattle.iogr_reference.specs.declared.references.GroupRef.{GroupRef}
use Rattle.client_calls.specs.declared.answers.Told.{Told}
use Rattle.client_calls.specs.Calls.{HasRisen, IsTold}
use Rattle.live_words.specs.declared.asking.LiveWords.{LiveWords}
use Rattle.live_clients.specs.Clients.{AreNewCallers, AreTold, IsToldBy, Task, all_faults, client_name, dialing_of, task, tasks_from}
use Rattle.live_net.specs.Callers.{AreCallers, HaveLinksInOrder, IsUnused, links_at}
use Rattle.live_run.specs.Runs.{AreClientsTold, Network, first_reference}

in_order : HaveLinksInOrder → (told now : Option (List (List (List ℕ)))) (links : List (Option (List (List ℕ)))) (place : ℕ) (own : Option (List (List ℕ)))
    → AreCallers told now links → slice_get links place ≡ Some own → IfSome told (λ all. own ≡ links_at (Some all) place)
in_order law None now links place own are at = tt
in_order law (Some all) now links place own are at = law all now links place own are at

module _ {D : Type 0} (links : D → Option (List (List ℕ))) (targets : D → Option (List Target)) (sent : D → Option (List (List ℕ))) (count : D → ℕ) (lent : D → Option ℕ) where
  abbrev pub AreUnused : List D → Type 0
  AreUnused callers = AllByRecursion (λ c. IsUnused (count c) (lent c) (sent c) (targets c)) callers

  new_callers : (reference : GroupRef) (calls number : ℕ) (callers : List D) → AreUnused callers → AreNewCallers count (tasks_from reference calls number callers)
  new_callers reference calls number [] all = tt
  new_callers reference calls number (c ∷ cs) all = (all.0.no_faults, new_callers reference calls (number + 1) cs all.1)

  unused_at : (callers : List D) (i : ℕ) (c : D) → slice_get callers i ≡ Some c → AreUnused callers → count c ≡ 0
  unused_at [] i c at all = cc
  unused_at (d ∷ ds) zero c at all = subst (λ (o : Option D). IfSome o (λ x. count x ≡ 0)) at all.0.no_faults
  unused_at (d ∷ ds) (suc i) c at all = unused_at ds i c at all.1

  many_told : (reference : GroupRef) (calls number : ℕ) (callers : List D) (tolds : List Told) (before now : ℕ)
      → AreTold links targets sent count (tasks_from reference calls number callers) tolds before now → length tolds ≡ length callers
  many_told reference calls number [] [] before now are = refl
  many_told reference calls number [] (t ∷ ts) before now are = absurd are
  many_told reference calls number (c ∷ cs) [] before now are = absurd are
  many_told reference calls number (c ∷ cs) (t ∷ ts) before now are = ap suc (many_told reference calls (number + 1) cs ts _ now are.2)

  -- what the client at a place was told, by its caller
  pub record IsAt (reference : GroupRef) (calls number : ℕ) (callers : List D) (told : Told) (i : ℕ) : Type 0 where
    pub caller : D
    pub there : slice_get callers i ≡ Some caller
    pub faults : ℕ
    pub told_by : IsToldBy links targets sent count (task (client_name number) reference calls caller) told faults

  told_at : (reference : GroupRef) (calls number : ℕ) (callers : List D) (tolds : List Told) (before now : ℕ) (i : ℕ) (told : Told)
      → AreTold links targets sent count (tasks_from reference calls number callers) tolds before now → slice_get tolds i ≡ Some told → IsAt reference calls (number + i) callers told i
  told_at reference calls number [] [] before now i told are at = cc
  told_at reference calls number [] (t ∷ ts) before now i told are at = absurd are
  told_at reference calls number (c ∷ cs) [] before now i told are at = absurd are
  told_at reference calls number (c ∷ cs) (t ∷ ts) before now zero told are at =
      let same : number ≡ number + 0 = omega arith in
      record {
        caller = c;
        there = refl;
        faults = are.0;
        told_by = subst (λ (n : ℕ). IsToldBy links targets sent count (task (client_name n) reference calls c) told are.0) same
            (subst (λ (o : Option Told). IfSome o (λ x. IsToldBy links targets sent count (task (client_name number) reference calls c) x are.0)) at are.1);
      }
  told_at reference calls number (c ∷ cs) (t ∷ ts) before now (suc i) told are at =
      let later = told_at reference calls (number + 1) cs ts _ now i told are.2 at in
      let same : number + 1 + i ≡ number + suc i = omega arith in
      record {
        caller = later.caller;
        there = later.there;
        faults = later.faults;
        told_by = subst (λ (n : ℕ). IsToldBy links targets sent count (task (client_name n) reference calls later.caller) told later.faults) same later.told_by;
      }

  pub clients_told : HaveLinksInOrder
      → ((tasks : List (Task D)) (tolds : List Told) (before now : ℕ) → AreNewCallers count tasks → AreTold links targets sent count tasks tolds before now → HasRisen (all_faults tolds) before now)
      → (live : LiveWords) (ports : List ℕ) (before after : Network) (now : Option (List (List (List ℕ)))) (callers : List D) (tolds : List Told) → length callers ≡ live.clients
      → AreCallers before.callers now (map links callers) → AreUnused callers
      → AreTold links targets sent count (tasks_from (first_reference live ports) live.calls 0 callers) tolds before.broken after.broken → AreClientsTold live before after tolds
  clients_told order counts live ports before after now callers tolds long are unused told =
      let reference = first_reference live ports in
      record {
        ports = ports;
        many = many_told reference live.calls 0 callers tolds before.broken after.broken told ∙ long;
        each = λ client one at.
            let is = told_at reference live.calls 0 callers tolds before.broken after.broken client one told at in
            let same : 0 + client ≡ client = omega arith in
            record {
              before = dialing_of links targets sent count is.caller;
              after = is.told_by.after;
              links = in_order order before.callers now (map links callers) client (links is.caller) are (slice_get-map links callers client ∙ ap (option_map links) is.there);
              fresh = unused_at callers client is.caller is.there unused;
              told_so = subst (λ (n : ℕ). IsTold (client_name n) reference live.calls (dialing_of links targets sent count is.caller) is.told_by.after one.calls.items) same is.told_by.told_so;
            };
        faults = counts (tasks_from reference live.calls 0 callers) tolds before.broken after.broken (new_callers reference live.calls 0 callers unused) told;
      }
