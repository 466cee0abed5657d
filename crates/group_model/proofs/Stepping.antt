-- What a step keeps: soundness, agreement, and all that grows.
use Rattle.std.proofs.Common.{◌≡◌, ℕ, ◌<◌, ◌≤◌, ◌⊎◌, inl, inr, max, true, List, [], ◌∷◌, length, length-append, append-nil, refl, sym, subst, ap, ◌∙◌, arith}
use Rattle.std.specs.Prelude.{nat_eq}
use Rattle.ft_base.specs.Machine.{Machine}
use Rattle.ft_base.specs.Views.{is_passive}
use Rattle.ft_base.specs.declared.requests.Request.{Request}
use Rattle.group_model.specs.declared.events.Event.{Event}
use Rattle.group_model.specs.declared.events.Event.TheVariants as events
use Rattle.group_model.specs.declared.events.GroupAnswer.{GroupAnswer}
use Rattle.group_model.specs.declared.events.GroupAnswer.TheVariants as answers
use Rattle.group_model.specs.Plain.{Common, Host, Group, blank, put, from, with_number, reach, start_of, caught_up_to, with_ran}
use Rattle.group_model.specs.Decisions.{known_then, looks_up}
use Rattle.group_model.specs.Serving.{joined}
use Rattle.group_model.specs.Views.{MayKnow, newest}
use Rattle.group_model.specs.Events.{host_of, shows_fault}
use Rattle.group_model.specs.Agreeing.{Agrees, AreNumbers, IsSound, IsSoundCommon, IsSoundHost}
use Rattle.group_model.specs.Laws.{Grows, Lasts}
use Rattle.group_model.specs.Lean.{IsLean, nothing, partly, unrun, IsUnrun, IsOnTheWay, IsOnItsOrders, LeavesPart, Asks}
use Rattle.group_model.specs.Runs.{Step}
use Rattle.group_model.specs.Steps.{LeadsTo, Act, AreSteps}
use Rattle.group_model.proofs.Choosing.{either_so}
use Rattle.group_model.proofs.Growing.{grows_itself, grows_on, with_ran_grows, turn_grows}
use Rattle.group_model.proofs.Keeping.{knows_then, newest_known}
use Rattle.group_model.proofs.Lasting.{agreement_lasts, views_grow}
use Rattle.group_model.proofs.Placing.{AreBelow, below, below_with, below_more, reach_within, blank_sound, host_stays, knowing_sound, moved_sound, on_the_way_sound, start_based}
use Rattle.group_model.proofs.Reading.{Runs, requests_run}
use Rattle.group_model.proofs.Sounding.{Given, step_sound, with_ran_sound, joined_sound}

-- ---- what want of memory leaves only grows

pub lean_grows : (m : Machine) (g : Group) (e : Event) (left : Group) → g.common.ran ≤ length g.common.journal → IsLean m g e left → Grows g.common left.common
lean_grows m g e left ran (nothing same) = subst (λ (x : Group). Grows g.common x.common) (sym same) (grows_itself g.common)
lean_grows m g e left ran (partly is) = subst (λ (x : Group). Grows g.common x.common) (sym is.is) (with_ran_grows is.host.place.position g.common)
lean_grows m g e left ran (unrun is) =
    subst (λ (x : Group). Grows g.common x.common) (sym is.is) (record {
      style = refl;
      id = refl;
      first_kept = refl;
      kind = refl;
      opening = refl;
      more = record { at = max is.clock g.common.time; request = is.request } ∷ [];
      journal = refl;
      newer = [];
      views = sym (append-nil g.common.views);
      time = omega arith;
      ran = ran;
    })

-- ---- a part of a catch-up, and of orders

-- what a host leaves of its work: what it has run is in the journal, and it is sound
record IsSoundPart (c : Common) (left : Host) : Type 0 where
  inside : left.place.position ≤ length c.journal
  sound : IsSoundHost (with_ran left.place.position c) left

ran_more : (c : Common) (n : ℕ) (h : Host) → IsSoundHost c h → IsSoundHost (with_ran n c) h
ran_more c n h s = host_stays c (with_ran n c) h refl refl (omega arith) (omega arith) s

way_sound : (c : Common) (h : Host) (raised : ℕ) (left : Host) → h.up ≡ true → AreNumbers c → IsSoundHost c h → MayKnow c raised → IsOnTheWay c h raised left → IsSoundPart c left
way_sound c h raised left up numbers s few way = come way.come where
  known : MayKnow c way.known
  known = elim way.knows [ inl e ↦ rw e s.known | inr e ↦ rw e few ]

  informed : IsSoundHost c (record h { known = way.known })
  informed = knowing_sound c h way.known up known s

  come : (left ≡ record h { known = way.known })
      ⊎ ((n : ℕ) × ((start_of c h.place).position ≤ n) × (n ≤ length c.journal) × (left ≡ caught_up_to c (record h { known = way.known }) n)) → IsSoundPart c left
  come (inl same) = rw same (record {
    inside = omega (arith, s.position, numbers.ran);
    sound = ran_more c h.place.position (record h { known = way.known }) informed;
  })
  come (inr at) =
      let based = start_based c h s in
      rw at.3 (record {
        inside = at.2;
        sound = on_the_way_sound c (record h { known = way.known }) at.0 up (omega (arith, based, at.1)) informed;
      })

orders_sound : (c : Common) (h : Host) (i : ℕ) (left : Host) → h.up ≡ true → (is_passive c.style ≡ true → ⊥) → i < c.ran → AreNumbers c → IsSoundHost c h → IsOnItsOrders h i left → IsSoundPart c left
orders_sound c h i left up active lt numbers s is = come is.is where
  held : AreBelow c.ran (with_number i h.holdback)
  held = below_with c.ran i h.holdback (below h.place.position c.ran h.holdback s.held) lt

  within : (h.place.position ≤ reach (with_number i h.holdback) h.place.position) × (reach (with_number i h.holdback) h.place.position ≤ c.ran)
  within = reach_within (with_number i h.holdback) c.ran h.place.position held s.position

  moves : (orders : List ℕ) → AreBelow c.ran orders → IsSoundPart c (record h { place = record h.place { position = is.position }; holdback = from is.position orders })
  moves orders few =
      let n = is.position in
      record {
        inside = omega (arith, is.last, within.1, numbers.ran);
        sound = moved_sound (with_ran n c) (record h { holdback = orders }) n (record {
          up = up;
          known = s.known;
          base = omega (arith, s.base, is.first);
          to = omega arith;
          loaded = is.loaded;
          held = below_more c.ran (max c.ran n) orders (omega arith) few;
          passive = λ p. absurd (active p);
        });
      }

  come : (left ≡ record h { place = record h.place { position = is.position }; holdback = from is.position h.holdback })
      ⊎ (left ≡ record h { place = record h.place { position = is.position }; holdback = from is.position (with_number i h.holdback) }) → IsSoundPart c left
  come (inl same) = rw same (moves h.holdback (below h.place.position c.ran h.holdback s.held))
  come (inr same) = rw same (moves (with_number i h.holdback) held)

part_sound : (m : Machine) (g : Group) (e : Event) (left : Host) → IsSound m g → Agrees m e g → (g.hosts (host_of e)).up ≡ true → LeavesPart m g e left → IsSoundPart g.common left
part_sound m g (events.Request host clock asked stop) left s a up part =
    let h = g.hosts host.0 in
    let may = knows_then g.common (looks_up h.known asked.version) h.known s.common.kept (s.hosts host.0).known in
    way_sound g.common h (known_then (newest g.common) h.known asked.version) left up s.common.numbers (s.hosts host.0) may part.1
part_sound m g (events.View host sent) left s a up part = absurd part
part_sound m g (events.State host position state) left s a up part = absurd part
part_sound m g (events.Update host begin end update) left s a up part = absurd part
part_sound m g (events.Order host i request) left s a up part =
    orders_sound g.common (g.hosts host.0) i left up (λ p. let both = sym (ap is_passive a.brought.0) ∙ p in absurd cc) a.brought.1.ran s.common.numbers (s.hosts host.0) part
part_sound m g (events.Crash host) left s a up part = absurd part
part_sound m g (events.Restart host) left s a up part = absurd part
part_sound m g (events.Checkpoint host clock) left s a up part = way_sound g.common (g.hosts host.0) (newest g.common) left up s.common.numbers (s.hosts host.0) (newest_known g.common s.common.kept) part
part_sound m g (events.SendUpdate host) left s a up part = way_sound g.common (g.hosts host.0) (newest g.common) left up s.common.numbers (s.hosts host.0) (newest_known g.common s.common.kept) part
part_sound m g (events.Manage change) left s a up part = absurd part

-- ---- a group with another common part, and another host at one place

around : (m : Machine) (g : Group) (c : Common) (at : ℕ) (h : Host) → IsSound m g → Grows g.common c → IsSoundCommon m c → IsSoundHost c h → IsSound m (record { common = c; hosts = put g.hosts at h })
around m g c at h s grows common host = record {
  common = common;
  hosts = λ i. either_so (IsSoundHost c) (nat_eq i at) h (g.hosts i) (λ same. host)
      (λ other. host_stays g.common c (g.hosts i) grows.style grows.first_kept (views_grow g.common c grows) grows.ran (s.hosts i));
}

-- ---- a request that joined unrun

asks_runs : (given : Given) (m : Machine) (g : Group) (e : Event) (clock : ℕ) (q : Request) → Agrees m e g → Asks m g e clock q → Runs m q
asks_runs given m g (events.Request host at asked stop) clock q a is =
    requests_run given.forms m g.common host.0 (known_then (newest g.common) (g.hosts host.0).known asked.version) asked q a.brought.octets is.2.is
asks_runs given m g (events.View host sent) clock q a is = absurd is
asks_runs given m g (events.State host position state) clock q a is = absurd is
asks_runs given m g (events.Update host begin end update) clock q a is = absurd is
asks_runs given m g (events.Order host i request) clock q a is = absurd is
asks_runs given m g (events.Crash host) clock q a is = absurd is
asks_runs given m g (events.Restart host) clock q a is = absurd is
asks_runs given m g (events.Checkpoint host at) clock q a is = absurd is
asks_runs given m g (events.SendUpdate host) clock q a is = absurd is
asks_runs given m g (events.Manage change) clock q a is = absurd is

unrun_sound : (given : Given) (m : Machine) (g : Group) (e : Event) (left : Group) → IsSound m g → Agrees m e g → IsUnrun m g e left → IsSound m left
unrun_sound given m g e left s a is =
    let c = g.common in
    let now = max is.clock c.time in
    let late : c.time ≤ now = omega arith in
    let sum = length-append c.journal (record { at = now; request = is.request } ∷ []) in
    let whole = joined_sound given m c now is.request s.common late (asks_runs given m g e is.clock is.request a is.asks) is.new in
    let c' : Common = record (joined c now is.request) { ran = length c.journal } in
    let common : IsSoundCommon m c' = record {
      opens = whole.opens;
      views = whole.views;
      kept = whole.kept;
      journal = whole.journal;
      numbers = record { mark = omega (arith, s.common.numbers.mark, s.common.numbers.ran); ran = omega (arith, sum); fresh = s.common.numbers.fresh };
    } in
    let grows = subst (λ (x : Group). Grows c x.common) is.is (lean_grows m g e left s.common.numbers.ran (unrun is)) in
    subst (IsSound m) (sym is.is) (around m g c' (host_of e) (blank true) s grows common (blank_sound c' true))

-- ---- want of memory

pub lean_sound : (given : Given) (m : Machine) (g : Group) (e : Event) (left : Group) → IsSound m g → Agrees m e g → IsLean m g e left → IsSound m left
lean_sound given m g e left s a (nothing same) = subst (IsSound m) (sym same) s
lean_sound given m g e left s a (partly is) =
    let part = part_sound m g e is.host s a is.up is.part in
    let n = is.host.place.position in
    subst (IsSound m) (sym is.is)
    (around m g (with_ran n g.common) (host_of e) is.host s (with_ran_grows n g.common) (with_ran_sound m g.common n part.inside s.common) part.sound)
lean_sound given m g e left s a (unrun is) = unrun_sound given m g e left s a is

pub lean_keeps : (m : Machine) (g : Group) (e : Event) (left : Group) → IsSound m g → IsLean m g e left → (later : Event) → Lasts later → Agrees m later g → Agrees m later left
lean_keeps m g e left s lean later lasts agrees = agreement_lasts m g left later s (lean_grows m g e left s.common.numbers.ran lean) lasts agrees

-- ---- a step

leads_grow : (m : Machine) (g : Group) (e : Event) (answer : GroupAnswer) (after : Group) → g.common.ran ≤ length g.common.journal → LeadsTo m g e answer after → Grows g.common after.common
leads_grow m g e answers.NoMemory after ran lean = lean_grows m g e after ran lean
leads_grow m g e answer after ran leads =
    subst (λ (x : Group). Grows g.common x.common) (sym leads.1) (turn_grows m g.common (g.hosts (host_of e)) e (shows_fault answer))

leads_sound : (given : Given) (m : Machine) (g : Group) (e : Event) (answer : GroupAnswer) (after : Group) → IsSound m g → Agrees m e g → LeadsTo m g e answer after → IsSound m after
leads_sound given m g e answers.NoMemory after s a lean = lean_sound given m g e after s a lean
leads_sound given m g e answer after s a leads =
    let step : Step = record { event = e; fails = shows_fault answer } in
    subst (IsSound m) (sym leads.1) (step_sound given m g step s a)

-- ---- a list of steps

pub steps_grow : (m : Machine) (g : Group) (acts : List Act) (after : Group) → AreSteps m g acts after → Grows g.common after.common
unfolding AreSteps
steps_grow m g [] after same = subst (λ (x : Group). Grows g.common x.common) (sym same) (grows_itself g.common)
steps_grow m g (act ∷ acts) after are =
    let step = are.1 in
    grows_on g.common (are.0).common after.common
    (leads_grow m g act.event act.answer are.0 step.sound.common.numbers.ran step.leads) (steps_grow m are.0 acts after are.2)

pub steps_sound : (given : Given) (m : Machine) (g : Group) (acts : List Act) (after : Group) → IsSound m g → AreSteps m g acts after → IsSound m after
unfolding AreSteps
steps_sound given m g [] after s same = subst (IsSound m) (sym same) s
steps_sound given m g (act ∷ acts) after s are =
    let step = are.1 in
    steps_sound given m are.0 acts after (leads_sound given m g act.event act.answer are.0 step.sound step.agrees step.leads) are.2

pub steps_keep : (m : Machine) (g : Group) (acts : List Act) (after : Group) → IsSound m g → AreSteps m g acts after → (e : Event) → Lasts e → Agrees m e g → Agrees m e after
steps_keep m g acts after s are e lasts agrees = agreement_lasts m g after e s (steps_grow m g acts after are) lasts agrees
