-- How a shared group goes on over one turn.
use Rattle.std.proofs.Common.{◌≡◌, ◌≤◌, ◌⊎◌, List, [], ◌∷◌, ◌++◌, length, Option, Some, None, refl, sym, subst, ap, inl, inr, arith}
use Rattle.ft_base.specs.Machine.{Machine}
use Rattle.ft_base.specs.declared.numbers.HostNo.{HostNo}
use Rattle.ft_base.specs.declared.numbers.Tick.{Tick}
use Rattle.group_model.specs.declared.events.Event.{Event}
use Rattle.group_model.specs.declared.events.Event.TheVariants as events
use Rattle.group_model.specs.declared.events.GroupAnswer.{GroupAnswer}
use Rattle.group_model.specs.declared.events.GroupAnswer.TheVariants as answers
use Rattle.group_model.specs.declared.events.Inner.{Inner}
use Rattle.group_model.specs.declared.events.Inner.TheVariants as inners
use Rattle.group_model.specs.declared.events.Out.{Out}
use Rattle.group_model.specs.Agreeing.{Agrees, IsSound}
use Rattle.group_model.specs.Amounts.{FewAreSent, most_sent}
use Rattle.group_model.specs.Events.{after_event, shows_fault, turn_of}
use Rattle.group_model.specs.Laws.{Lasts}
use Rattle.group_model.specs.Plain.{Group}
use Rattle.group_model.specs.Sending.{WhatIsSentAgrees, brought, brought_to_host, sent_by}
use Rattle.group_model.specs.Steps.{AreSteps, IsStep, LeadsTo, StepsGrow, StepsKeepAgreement}
use Rattle.group_model.specs.Takers.{taker}
use Rattle.shared_group.specs.declared.calls.Call.{Call}
use Rattle.shared_group.specs.declared.calls.Call.TheVariants as calls
use Rattle.shared_group.specs.declared.calls.CallAnswer.{CallAnswer}
use Rattle.shared_group.specs.Shared.{AllMayCome, Carries, HandsOut, Shared, Steps, Takes, asking}

-- ---- a step

-- the event had its turn, or memory was wanted
pub leads_case : (m : Machine) (g : Group) (e : Event) (answer : GroupAnswer) (after : Group) → LeadsTo m g e answer after →
    (((turn_of m g e (shows_fault answer)).answer ≡ answer) × (after ≡ after_event m g e (shows_fault answer))) ⊎ (answer ≡ answers.NoMemory)
leads_case m g e (answers.Reply decision answer out) after leads = inl leads
leads_case m g e (answers.Known version) after leads = inl leads
leads_case m g e (answers.Applied n) after leads = inl leads
leads_case m g e (answers.Held n) after leads = inl leads
leads_case m g e (answers.Ignored cause) after leads = inl leads
leads_case m g e (answers.Taken from position out) after leads = inl leads
leads_case m g e (answers.Changed view out) after leads = inl leads
leads_case m g e (answers.Refused fault) after leads = inl leads
leads_case m g e answers.LogFault after leads = inl leads
leads_case m g e answers.Down after leads = inl leads
leads_case m g e answers.Up after leads = inl leads
leads_case m g e answers.NoMemory after leads = inr refl

pub alone : (m : Machine) (g : Group) (e : Event) (answer : GroupAnswer) (after : Group) → IsStep m g e answer after
    → AreSteps m g (record { event = e; answer = answer } ∷ []) after
unfolding AreSteps
alone m g e answer after step = (after, step, refl)

-- what is sent goes on agreeing
pub brought_lasts : (out : Out) → Lasts (brought out)
brought_lasts out = go out.carried where
  go : (inner : Inner) → Lasts (brought_to_host out.to inner)
  go (inners.View version) = tt
  go (inners.State position state) = tt
  go (inners.Update from until update) = tt
  go (inners.Order index request) = tt

-- no more is sent than the event may send
pub few_sent : FewAreSent → (m : Machine) (g : Group) (e : Event) (answer : GroupAnswer) (after : Group) → IsStep m g e answer after
    → length (sent_by answer) ≤ most_sent e
few_sent few m g e answer after step = elim (leads_case m g e answer after step.leads) [
  | inl had ↦ subst (λ (a : GroupAnswer). length (sent_by a) ≤ most_sent e) had.0 (few m g e (shows_fault answer) step.sound)
  | inr short ↦ subst (λ (a : GroupAnswer). length (sent_by a) ≤ most_sent e) (sym short) (omega arith)
]

module _ (m : Machine) where
  -- ---- what was sent may come

  sent_by_turn : WhatIsSentAgrees → (g after : Group) (e : Event) (answer : GroupAnswer) → IsSound m g → Agrees m e g
      → (turn_of m g e (shows_fault answer)).answer ≡ answer → after ≡ after_event m g e (shows_fault answer) → AllMayCome m (sent_by answer) after
  sent_by_turn sent g after e answer sound agrees told is =
      subst (λ (h : Group). AllMayCome m (sent_by answer) h) (sym is)
      (subst (λ (a : GroupAnswer). AllMayCome m (sent_by a) (after_event m g e (shows_fault answer))) told (sent m g e (shows_fault answer) sound agrees))

  pub sent_may_come : WhatIsSentAgrees → (g after : Group) (e : Event) (answer : GroupAnswer) → IsStep m g e answer after → AllMayCome m (sent_by answer) after
  sent_may_come sent g after e answer step = elim (leads_case m g e answer after step.leads) [
    | inl had ↦ sent_by_turn sent g after e answer step.sound step.agrees had.0 had.1
    | inr short ↦ subst (λ (a : GroupAnswer). AllMayCome m (sent_by a) after) (sym short) tt
  ]

  may_come_both : (outs more : List Out) (g : Group) → AllMayCome m outs g → AllMayCome m more g → AllMayCome m (outs ++ more) g
  may_come_both [] more g may may_more = may_more
  may_come_both (out ∷ outs) more g may may_more = (may.0, may_come_both outs more g may.1 may_more)

  module _ (lasting : StepsKeepAgreement) where
    may_come_on : (outs : List Out) (g after : Group) (e : Event) (answer : GroupAnswer) → AllMayCome m outs g → IsStep m g e answer after → AllMayCome m outs after
    may_come_on [] g after e answer may step = tt
    may_come_on (out ∷ outs) g after e answer may step = (
      lasting m g (record { event = e; answer = answer } ∷ []) after step.sound (alone m g e answer after step) (brought out) (brought_lasts out) may.0,
      may_come_on outs g after e answer may.1 step,
    )

    module _ (sent : WhatIsSentAgrees) where
      hands_out : (e : Event) (answer : CallAnswer) (s t : Shared) → AllMayCome m s.queue s.group → HandsOut m e answer s t → AllMayCome m t.queue t.group
      hands_out e answer s t may is = subst (λ (q : List Out). AllMayCome m q t.group) (sym is.queue) (may_come_on s.queue s.group t.group e is.of may is.step)

      queues : (e : Event) (answer : GroupAnswer) (s t : Shared) → AllMayCome m s.queue s.group → IsStep m s.group e answer t.group → t.queue ≡ s.queue ++ sent_by answer
          → AllMayCome m t.queue t.group
      queues e answer s t may step queue = subst (λ (q : List Out). AllMayCome m q t.group) (sym queue)
          (may_come_both s.queue (sent_by answer) t.group (may_come_on s.queue s.group t.group e answer may step) (sent_may_come sent s.group t.group e answer step))

      stays : (s t : Shared) → AllMayCome m s.queue s.group → t ≡ s → AllMayCome m t.queue t.group
      stays s t may same = subst (λ (z : Shared). AllMayCome m z.queue z.group) (sym same) may

      carries : (outs : List Out) (answer : CallAnswer) (s t : Shared) → s.queue ≡ outs → AllMayCome m s.queue s.group → Carries m outs answer s t → AllMayCome m t.queue t.group
      carries [] answer s t same may is = stays s t may is.1
      carries (out ∷ outs) answer s t same may is =
          hands_out (brought out) answer (record s { queue = outs }) t (subst (λ (q : List Out). AllMayCome m q s.group) same may).1 is

      takes : (host : Option HostNo) (clock : Tick) (answer : CallAnswer) (s t : Shared) → AllMayCome m s.queue s.group → Takes m host clock answer s t → AllMayCome m t.queue t.group
      takes None clock answer s t may is = stays s t may is.1
      takes (Some host) clock answer s t may is = queues (events.Checkpoint host clock) is.of.whole.value s t may is.queues.step is.queues.queue

      pub may_come_after : (call : Call) (answer : CallAnswer) (s t : Shared) → AllMayCome m s.queue s.group → Steps m call answer s t → AllMayCome m t.queue t.group
      may_come_after (calls.Act e) answer s t may is = hands_out e answer s t may is.1
      may_come_after (calls.Ask host asked) answer s t may is = queues (asking host asked) is.of.queued.whole.value s t may is.queues.step is.queues.queue
      may_come_after calls.Carry answer s t may is = carries s.queue answer s t refl may is
      may_come_after (calls.Checkpoint clock) answer s t may is = takes (taker s.group) clock answer s t may is
      may_come_after (calls.Here host) answer s t may is = stays s t may is.1
      may_come_after calls.Figures answer s t may is = stays s t may is.1
      may_come_after (calls.Reply key) answer s t may is = stays s t may is.1

  -- ---- a turn is a step of the group, or leaves it

  pub data Moves (g after : Group) : Type 0 where
    moved : (e : Event) (answer : GroupAnswer) → IsStep m g e answer after → Moves g after
    rested : after ≡ g → Moves g after

  group_of : (s t : Shared) → t ≡ s → t.group ≡ s.group
  group_of s t same = ap (λ (z : Shared). z.group) same

  carry_moves : (outs : List Out) (answer : CallAnswer) (s t : Shared) → Carries m outs answer s t → Moves s.group t.group
  carry_moves [] answer s t is = rested (group_of s t is.1)
  carry_moves (out ∷ outs) answer s t is = moved (brought out) is.of is.step

  take_moves : (host : Option HostNo) (clock : Tick) (answer : CallAnswer) (s t : Shared) → Takes m host clock answer s t → Moves s.group t.group
  take_moves None clock answer s t is = rested (group_of s t is.1)
  take_moves (Some host) clock answer s t is = moved (events.Checkpoint host clock) is.of.whole.value is.queues.step

  pub call_moves : (call : Call) (answer : CallAnswer) (s t : Shared) → Steps m call answer s t → Moves s.group t.group
  call_moves (calls.Act e) answer s t is = moved e is.1.of is.1.step
  call_moves (calls.Ask host asked) answer s t is = moved (asking host asked) is.of.queued.whole.value is.queues.step
  call_moves calls.Carry answer s t is = carry_moves s.queue answer s t is
  call_moves (calls.Checkpoint clock) answer s t is = take_moves (taker s.group) clock answer s t is
  call_moves (calls.Here host) answer s t is = rested (group_of s t is.1)
  call_moves calls.Figures answer s t is = rested (group_of s t is.1)
  call_moves (calls.Reply key) answer s t is = rested (group_of s t is.1)

  -- whatever a call did, where the group is sound after it, it was before; and an event that lasts agrees after it as before
  pub was_sound : (g after : Group) → Moves g after → IsSound m after → IsSound m g
  was_sound g after (moved e answer step) sound = step.sound
  was_sound g after (rested same) sound = subst (λ (h : Group). IsSound m h) same sound

  pub agrees_on : StepsKeepAgreement → (g after : Group) → Moves g after → (later : Event) → Lasts later → Agrees m later g → Agrees m later after
  agrees_on lasting g after (moved e answer step) later lasts agrees =
      lasting m g (record { event = e; answer = answer } ∷ []) after step.sound (alone m g e answer after step) later lasts agrees
  agrees_on lasting g after (rested same) later lasts agrees = subst (λ (h : Group). Agrees m later h) (sym same) agrees

  pub same_kind : StepsGrow → (g after : Group) → Moves g after → after.common.kind ≡ g.common.kind
  same_kind grow g after (moved e answer step) = (grow m g (record { event = e; answer = answer } ∷ []) after (alone m g e answer after step)).kind
  same_kind grow g after (rested same) = ap (λ (h : Group). h.common.kind) same
