-- Which calls may be made.
use Rattle.std.proofs.Common.{◌≡◌, ℕ, List, [], ◌∷◌, ◌++◌, Some, subst}
use Rattle.std.specs.List.{AllByRecursion}
use Rattle.ft_base.specs.Machine.{Machine}
use Rattle.group_model.specs.declared.events.Event.{Event}
use Rattle.group_model.specs.declared.events.Event.TheVariants as events
use Rattle.group_model.specs.declared.events.GroupAnswer.{GroupAnswer}
use Rattle.group_model.specs.declared.events.Out.{Out}
use Rattle.group_model.specs.Agreeing.{Agrees}
use Rattle.group_model.specs.Laws.{Lasts}
use Rattle.group_model.specs.Plain.{Group}
use Rattle.group_model.specs.Sending.{WhatIsSentAgrees, brought, sent_by}
use Rattle.group_model.specs.Steps.{IsStep}
use Rattle.shared_group.specs.declared.calls.Call.{Call}
use Rattle.shared_group.specs.declared.calls.CallAnswer.{CallAnswer}
use Rattle.shared_group.specs.declared.calls.CallAnswer.TheVariants as told
use Rattle.shared_group.specs.declared.calls.Call.TheVariants as calls
use Rattle.group_core.specs.Cores.{Stands}
use Rattle.shared_group.specs.Books.{BookPicture, MayCall}
use Rattle.shared_group.specs.Laws.{ComesFromOutside, FreeCallsMayBeMade, IsFree}
use Rattle.shared_group.specs.Shared.{AllMayCome, IsInside, Legal, Shared, asking, event_in, opening}
use Rattle.shared_group.proofs.Going.{brought_lasts, sent_may_come}
use Rattle.shared_group.proofs.Longer.{legal_last}

lasts_from_outside : (e : Event) → ComesFromOutside e → Lasts e
lasts_from_outside (events.Request host clock asked stop) from = tt
lasts_from_outside (events.View host version) from = absurd from
lasts_from_outside (events.State host position state) from = absurd from
lasts_from_outside (events.Update host begin end update) from = absurd from
lasts_from_outside (events.Order host index request) from = absurd from
lasts_from_outside (events.Crash host) from = tt
lasts_from_outside (events.Restart host) from = tt
lasts_from_outside (events.Checkpoint host clock) from = absurd from
lasts_from_outside (events.SendUpdate host) from = absurd from
lasts_from_outside (events.Manage change) from = tt

agrees_from_outside : (m : Machine) (e : Event) (g : Group) → ComesFromOutside e → Agrees m e g
agrees_from_outside m (events.Request host clock asked stop) g from = record { host = from.0; brought = from.1 }
agrees_from_outside m (events.View host version) g from = absurd from
agrees_from_outside m (events.State host position state) g from = absurd from
agrees_from_outside m (events.Update host begin end update) g from = absurd from
agrees_from_outside m (events.Order host index request) g from = absurd from
agrees_from_outside m (events.Crash host) g from = record { host = from; brought = tt }
agrees_from_outside m (events.Restart host) g from = record { host = from; brought = tt }
agrees_from_outside m (events.Checkpoint host clock) g from = absurd from
agrees_from_outside m (events.SendUpdate host) g from = absurd from
agrees_from_outside m (events.Manage change) g from = record { host = from.0; brought = from.1 }

-- an event that a free call brings
from_outside : (call : Call) (e : Event) → IsFree call → event_in call ≡ Some e → ComesFromOutside e
from_outside (calls.Act x) e free is = let same : x ≡ e = cc in subst ComesFromOutside same free
from_outside (calls.Ask host asked) e free is = let same : asking host asked ≡ e = cc in subst ComesFromOutside same free
from_outside calls.Carry e free is = absurd cc
from_outside (calls.Checkpoint clock) e free is = absurd cc
from_outside (calls.Here host) e free is = absurd cc
from_outside calls.Figures e free is = absurd cc
from_outside (calls.Reply key) e free is = absurd cc

free_inside : (call : Call) → IsFree call → IsInside call
free_inside (calls.Act e) free = tt
free_inside (calls.Ask host asked) free = tt
free_inside calls.Carry free = tt
free_inside (calls.Checkpoint clock) free = tt
free_inside (calls.Here host) free = free
free_inside calls.Figures free = tt
free_inside (calls.Reply key) free = tt

pub free_may : (machines : ℕ → Machine) → FreeCallsMayBeMade machines
free_may machines = λ first past call free. record {
  inside = free_inside call free;
  agrees = λ e is.
      let from = from_outside call e free is in (
        lasts_from_outside e from,
        λ o s opened legal sound. agrees_from_outside (machines o.common.kind) e s.group from,
      );
}

module _ (machines : ℕ → Machine) (sent : WhatIsSentAgrees) where
  -- each of what was sent agrees with whatever the calls lead to, since all of them do
  may_each : (first : BookPicture) (past : List (Call × CallAnswer)) (outs : List Out)
      → ((o : Group) (u : Shared) → Stands machines first.core o → Legal (machines o.common.kind) (opening o) past u → AllMayCome (machines o.common.kind) outs u.group)
      → AllByRecursion (λ out. MayCall machines first past (calls.Act (brought out))) outs
  may_each first past [] all = tt
  may_each first past (out ∷ outs) all = (
    record {
      inside = tt;
      agrees = λ e is.
          let same : brought out ≡ e = cc in (
            subst Lasts same (brought_lasts out),
            λ o u opened legal sound. subst (λ (x : Event). Agrees (machines o.common.kind) x u.group) same (all o u opened legal).0,
          );
    },
    may_each first past outs (λ o u opened legal. (all o u opened legal).1),
  )

  pub sent_may : (first : BookPicture) (past : List (Call × CallAnswer)) (e : Event) (answer : GroupAnswer)
      → AllByRecursion (λ out. MayCall machines first (past ++ (calls.Act e, told.Event answer) ∷ []) (calls.Act (brought out))) (sent_by answer)
  sent_may first past e answer = may_each first (past ++ (calls.Act e, told.Event answer) ∷ []) (sent_by answer) (λ o u opened legal.
      let m = machines o.common.kind in
      let l = legal_last m past (calls.Act e, told.Event answer) (opening o) u legal in
      let hands = l.2.1 in
      let its : hands.of ≡ answer = let is = hands.is in cc in
      let step : IsStep m l.0.group e answer u.group = subst (λ (a : GroupAnswer). IsStep m l.0.group e a u.group) its hands.step in
      sent_may_come m sent l.0.group u.group e answer step)
