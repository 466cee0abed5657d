-- Hosts that take no part in an event go on standing.
use Rattle.std.proofs.Common.{◌≡◌, ℕ, ◌<◌, ◌≤◌, ◌⊎◌, List, [], ◌∷◌, length, length-append, refl, sym, subst, ap, ◌∙◌, arith}
use Rattle.std.specs.List.{AllByRecursion}
use Rattle.ft_base.specs.Machine.{Machine}
use Rattle.ft_base.specs.Laws.{Stays}
use Rattle.group_model.specs.Agreeing.{IsSoundHost, IsSound, Agrees}
use Rattle.group_model.specs.Events.{after_event}
use Rattle.group_model.specs.Laws.{Grows, GroupsGrow, GroupsStaySound}
use Rattle.group_model.specs.Plain.{Common, Host, Group}
use Rattle.group_model.specs.Runs.{Step, after_steps, AllAgree}
use Rattle.group_model.specs.Views.{newest}
use Rattle.group_stands.specs.Going.{ReplicasGoOn}
use Rattle.group_stands.specs.Holding.{HoldbacksGoOn}
use Rattle.group_hosts.specs.Hosts.{HostPicture, HostStands}

-- ---- one event

one_step : (m : Machine) (g : Group) (step : Step) → after_steps m g (step ∷ []) ≡ after_event m g step.event step.fails
unfolding after_steps
one_step m g step = refl

one_agrees : (m : Machine) (g : Group) (step : Step) → Agrees m step.event g → AllAgree m g (step ∷ [])
unfolding AllAgree
one_agrees m g step agrees = (agrees, tt)

pub event_sound : GroupsStaySound → (m : Machine) → Stays m → (g : Group) (step : Step) → IsSound m g → Agrees m step.event g → IsSound m (after_event m g step.event step.fails)
event_sound law m stays g step sound agrees = subst (IsSound m) (one_step m g step) (law m g (step ∷ []) stays sound (one_agrees m g step agrees))

pub event_grows : GroupsGrow → (m : Machine) (g : Group) (step : Step) → Grows g.common (after_event m g step.event step.fails).common
event_grows law m g step = subst (λ (x : Group). Grows g.common x.common) (one_step m g step) (law m g (step ∷ []))

-- ---- the others

views_grow : (c later : Common) → Grows c later → newest c ≤ newest later
views_grow c later grows = let e = ap length grows.views ∙ length-append c.views grows.newer in omega (arith, e)

pub sound_stays : (c later : Common) (h : Host) → Grows c later → IsSoundHost c h → IsSoundHost later h
sound_stays c later h grows sound = record {
  known = (omega (arith, sound.known.0, views_grow c later grows), subst (λ (n : ℕ). (h.known ≡ 0) ⊎ (n ≤ h.known)) (sym grows.first_kept) sound.known.1);
  base = sound.base;
  position = omega (arith, sound.position, grows.ran);
  unloaded = sound.unloaded;
  held = numbers_stay h.place.position c.ran later.ran h.holdback grows.ran sound.held;
  passive = rw grows.style sound.passive;
  down = sound.down;
} where
  numbers_stay : (position ran more : ℕ) (xs : List ℕ) → ran ≤ more → AllByRecursion (λ i. (position ≤ i) × (i < ran)) xs → AllByRecursion (λ i. (position ≤ i) × (i < more)) xs
  numbers_stay position ran more [] le all = tt
  numbers_stay position ran more (x ∷ xs) le all = ((all.0.0, omega (arith, le, all.0.1)), numbers_stay position ran more xs le all.1)

pub host_stays : ReplicasGoOn → HoldbacksGoOn → (machines : ℕ → Machine) (c later : Common) (host : HostPicture) (h : Host) → c.ran ≤ length c.journal → Grows c later →
    HostStands machines c host h → HostStands machines later host h
host_stays replicas holdbacks machines c later host h ran grows stands = record {
  up = stands.up;
  known = stands.known;
  replica = replicas machines c later host.replica h.place stands.replica ran grows;
  held = holdbacks c later h.place.position h.holdback host.held stands.held grows;
}
