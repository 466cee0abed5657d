-- A sound group stays sound.
use Rattle.std.proofs.Common.{◌≡◌, ℕ, ◌+◌, ◌<◌, ◌≤◌, inr, max, Bool, true, false, List, [], ◌∷◌, ◌++◌, length, length-append, Option, Some, None, Result, Ok, Err, refl, sym, ap, ◌∙◌, if◌then◌else◌, arith}
use Rattle.std.specs.Prelude.{nat_lt, nat_eq, not}
use Rattle.ft_base.specs.Machine.{Machine}
use Rattle.ft_base.specs.Laws.{JournalGoesOn, AllGoOnFitting}
use Rattle.ft_base.specs.declared.decisions.Stop.{Stop}
use Rattle.ft_base.specs.declared.decisions.Stop.TheVariants.{Never, AfterAppend, AfterExecute}
use Rattle.ft_base.specs.declared.decisions.Ignored.TheVariants as causes
use Rattle.ft_base.specs.declared.requests.Request.{Request}
use Rattle.group_model.specs.declared.asking.Asked.{Asked}
use Rattle.group_model.specs.declared.changes.Change.{Change}
use Rattle.group_model.specs.declared.changes.ManageFault.{ManageFault}
use Rattle.group_model.specs.declared.events.Event.{Event}
use Rattle.group_model.specs.declared.events.Event.TheVariants as events
use Rattle.group_model.specs.declared.events.GroupAnswer.TheVariants.{Known, Down}
use Rattle.group_model.specs.declared.refusals.Refusal.{Refusal}
use Rattle.group_model.specs.Plain.{Common, Host, Group, reach, with_ran, caught_up}
use Rattle.group_model.specs.Turns.{Turn, unchanged}
use Rattle.ft_base.specs.Views.{is_passive}
use Rattle.group_model.specs.Views.{AreKept, MayKnow, StillHas, version, newest, newest_view}
use Rattle.group_model.specs.Decisions.{known_then, looks_up, request_in}
use Rattle.ft_base.specs.Admissions.{admission}
use Rattle.ft_base.specs.declared.admissions.Admission.{Admission}
use Rattle.ft_base.specs.declared.admissions.Admission.TheVariants.{Expired, Same, Other, Full, New}
use Rattle.group_model.specs.Serving.{joined, accepted, admitted, served_or, unless_bad, on_request}
use Rattle.group_model.specs.Transfers.{brought_to, ignoring, holding, ordered, taking, rebased, marked, checkpoint_written, on_checkpoint, on_send_update, on_state, on_update, on_order, on_view}
use Rattle.group_model.specs.Changes.{changed, changed_or, next_view, first_fault, change_rows, host_of_change, NamesHosts}
use Rattle.group_model.specs.Events.{if_up, turn, host_of}
use Rattle.group_model.specs.Agreeing.{IsSoundCommon, IsSoundHost, IsSound, AreNumbers, Agrees}
use Rattle.group_model.specs.Runs.{Step, after_step, after_steps, AllAgree}
use Rattle.group_model.proofs.Choosing.{either_so}
use Rattle.group_model.proofs.Growing.{either, turn_grows}
use Rattle.group_model.proofs.Lasting.{views_grow}
use Rattle.group_model.proofs.Keeping.{newest_known, knows_then}
use Rattle.group_model.proofs.Knowing.{ErrIs, request_is}
use Rattle.group_model.proofs.Reading.{CanonicalForms, Runs, requests_run}
use Rattle.group_model.proofs.Joining.{logged_joins, logged_later}
use Rattle.group_model.proofs.Placing.{below, below_more, blank_sound, host_stays, knowing_sound, up_sound, rebased_sound, HasCaughtUp, moved_sound, brought_sound, caught_up_sound, order_sound}
use Rattle.group_model.proofs.Viewing.{views_go_on}

-- the laws of journals and of canonical forms that are used
pub record Given : Type 0 where
  pub goes : JournalGoesOn
  pub fitting : AllGoOnFitting
  pub forms : CanonicalForms

-- a turn that leaves what hosts share, and its host, sound
pub record TurnSound (m : Machine) (t : Turn) : Type 0 where
  pub common : IsSoundCommon m t.common
  pub host : IsSoundHost t.common t.host

-- ---- what hosts share

pub with_ran_sound : (m : Machine) (c : Common) (n : ℕ) → n ≤ length c.journal → IsSoundCommon m c → IsSoundCommon m (with_ran n c)
with_ran_sound m c n le s = record {
  opens = s.opens;
  views = s.views;
  kept = s.kept;
  journal = s.journal;
  numbers = record { mark = omega (arith, s.numbers.mark); ran = omega (arith, s.numbers.ran, le); fresh = s.numbers.fresh };
}

pub joined_sound : (given : Given) (m : Machine) (c : Common) (now : ℕ) (q : Request) → IsSoundCommon m c → c.time ≤ now → Runs m q → admission c.journal now q ≡ New →
    IsSoundCommon m (joined c now q)
joined_sound given m c now q s later runs new = record {
  opens = s.opens;
  views = s.views;
  kept = s.kept;
  journal = logged_joins given.goes given.fitting m c.time now c.journal q s.journal later runs new;
  numbers = record {
    mark = s.numbers.mark;
    ran = omega (arith, s.numbers.ran, length-append c.journal (record { at = now; request = q } ∷ []));
    fresh = s.numbers.fresh;
  };
}

marked_sound : (m : Machine) (c : Common) (clock : ℕ) → length c.journal ≤ c.ran → IsSoundCommon m c → IsSoundCommon m (marked c clock)
marked_sound m c clock all s = record {
  opens = s.opens;
  views = s.views;
  kept = s.kept;
  journal = logged_later m c.time (max c.time clock) c.journal s.journal (omega arith);
  numbers = record { mark = all; ran = s.numbers.ran; fresh = λ e. absurd cc };
}

-- ---- requests

accepted_sound : (given : Given) (m : Machine) (c : Common) (h : Host) (host now : ℕ) (q : Request) (stop : Stop) → IsSoundCommon m c → HasCaughtUp c h →
    c.time ≤ now → Runs m q → admission c.journal now q ≡ New → TurnSound m (accepted m c h host now q stop)
accepted_sound given m c h host now q Never s x later runs new =
    let j = joined c now q in
    let n = length c.journal + 1 in
    let sum = length-append c.journal (record { at = now; request = q } ∷ []) in
    record {
      common = with_ran_sound m j n (omega (arith, sum)) (joined_sound given m c now q s later runs new);
      host = moved_sound (with_ran n j) h n (record {
        up = x.up;
        known = x.sound.known;
        base = omega (arith, x.sound.base, x.sound.position, s.numbers.ran);
        to = omega arith;
        loaded = x.loaded;
        held = below_more c.ran (max c.ran n) h.holdback (omega arith) (below h.place.position c.ran h.holdback x.sound.held);
        passive = x.sound.passive;
      });
    }
accepted_sound given m c h host now q AfterAppend s x later runs new =
    record { common = joined_sound given m c now q s later runs new; host = blank_sound (joined c now q) false }
accepted_sound given m c h host now q AfterExecute s x later runs new =
    let j = joined c now q in
    let n = length c.journal + 1 in
    let sum = length-append c.journal (record { at = now; request = q } ∷ []) in
    record { common = with_ran_sound m j n (omega (arith, sum)) (joined_sound given m c now q s later runs new); host = blank_sound (with_ran n j) false }

admitted_sound : (given : Given) (m : Machine) (c : Common) (h : Host) (host now : ℕ) (q : Request) (stop : Stop) (fails : Bool) (a : Admission) → IsSoundCommon m c →
    HasCaughtUp c h → c.time ≤ now → Runs m q → admission c.journal now q ≡ a → TurnSound m (admitted m c h host now q stop fails a)
admitted_sound given m c h host now q stop fails (Expired e) s x later runs is = record { common = s; host = x.sound }
admitted_sound given m c h host now q stop fails (Same i) s x later runs is = record { common = s; host = x.sound }
admitted_sound given m c h host now q stop fails (Other i) s x later runs is = record { common = s; host = x.sound }
admitted_sound given m c h host now q stop fails Full s x later runs is = record { common = s; host = x.sound }
admitted_sound given m c h host now q stop true New s x later runs is = record { common = s; host = x.sound }
admitted_sound given m c h host now q stop false New s x later runs is = accepted_sound given m c h host now q stop s x later runs is

le_max : (m n : ℕ) → n ≤ max m n
le_max m n = omega arith

served_or_sound : (given : Given) (m : Machine) (c : Common) (h : Host) (host clock : ℕ) (stop : Stop) (fails : Bool) (r : Result Request Refusal) → h.up ≡ true → IsSoundCommon m c →
    IsSoundHost c h → ErrIs (λ x. MayKnow c x.known.0) r → ((q : Request) → r ≡ Ok q → Runs m q) → TurnSound m (served_or m c h host clock stop fails r)
served_or_sound given m c h host clock stop fails (Err refused) up s x knows runs = record { common = s; host = knowing_sound c h refused.known.0 up knows x }
served_or_sound given m c h host clock stop fails (Ok q) up s x knows runs =
    let ran = with_ran (length c.journal) c in
    let t = admitted_sound given m ran (caught_up c h) host (max clock c.time) q stop fails (admission c.journal (max clock c.time) q)
    (with_ran_sound m c (length c.journal) (omega arith) s) (caught_up_sound c h up s.numbers x) (le_max clock c.time) (runs q refl) refl in
    record { common = t.common; host = t.host }

unless_bad_sound : (m : Machine) (bad : Option ℕ) (c : Common) (h : Host) (t : Turn) → IsSoundCommon m c → IsSoundHost c h → TurnSound m t → TurnSound m (unless_bad bad c h t)
unless_bad_sound m None c h t s x sound = sound
unless_bad_sound m (Some id) c h t s x sound = record { common = s; host = x }

request_sound : (given : Given) (m : Machine) (c : Common) (h : Host) (host clock : ℕ) (asked : Asked) (stop : Stop) (fails : Bool) → h.up ≡ true → IsSoundCommon m c → IsSoundHost c h →
    ((known : ℕ) (q : Request) → request_in m c host known asked ≡ Ok q → Runs m q) → TurnSound m (on_request m c h host clock asked stop fails)
request_sound given m c h host clock asked stop fails up s x runs =
    let known = known_then (newest c) h.known asked.version in
    let h' : Host = record h { known = known } in
    let may = knows_then c (looks_up h.known asked.version) h.known s.kept x.known in
    unless_bad_sound m asked.bad_context c h (served_or m c h' host clock stop fails (request_in m c host known asked)) s x
    (served_or_sound given m c h' host clock stop fails (request_in m c host known asked) up s (knowing_sound c h known up may x)
    (request_is (λ x. MayKnow c x.known.0) m c host known asked (λ d a e t. may) (λ d a e t. newest_known c s.kept)) (runs known))

-- ---- transfers

pub taking_sound : (c : Common) (h : Host) → h.up ≡ true → AreNumbers c → AreKept c.first_kept c.views → IsSoundHost c h → HasCaughtUp (with_ran (length c.journal) c) (taking c h)
taking_sound c h up numbers kept x = caught_up_sound c (record h { known = newest c }) up numbers (knowing_sound c h (newest c) up (newest_known c kept) x)

written_sound : (m : Machine) (c : Common) (h : Host) (host clock : ℕ) (fails : Bool) → h.up ≡ true → length c.journal ≤ c.ran → IsSoundCommon m c → IsSoundHost c h →
    TurnSound m (checkpoint_written m c h host clock fails)
written_sound m c h host clock true up all s x = record { common = s; host = x }
written_sound m c h host clock false up all s x =
    record { common = marked_sound m c clock all s; host = host_stays c (marked c clock) (rebased h) refl refl (omega arith) (omega arith) (rebased_sound c h up x) }

checkpoint_sound : (m : Machine) (c : Common) (h : Host) (host clock : ℕ) (fails : Bool) → h.up ≡ true → IsSoundCommon m c → IsSoundHost c h → TurnSound m (on_checkpoint m c h host clock fails)
checkpoint_sound m c h host clock fails up s x =
    let ran = with_ran (length c.journal) c in
    let t = written_sound m ran (taking c h) host clock fails up (le_max c.ran (length c.journal)) (with_ran_sound m c (length c.journal) (omega arith) s)
    (taking_sound c h up s.numbers s.kept x).sound in
    record { common = t.common; host = t.host }

send_update_sound : (m : Machine) (c : Common) (h : Host) (host : ℕ) → h.up ≡ true → IsSoundCommon m c → IsSoundHost c h → TurnSound m (on_send_update m c h host)
send_update_sound m c h host up s x = record {
  common = with_ran_sound m c (length c.journal) (omega arith) s;
  host = rebased_sound (with_ran (length c.journal) c) (taking c h) up (taking_sound c h up s.numbers s.kept x).sound;
}

state_sound : (m : Machine) (c : Common) (h : Host) (n : ℕ) → h.up ≡ true → is_passive c.style ≡ true → n ≤ c.ran → IsSoundCommon m c → IsSoundHost c h → TurnSound m (on_state c h n)
state_sound m c h n up passive le s x =
    let brought : TurnSound m (brought_to n c h) = record { common = s; host = brought_sound c h n up passive le x } in
    let ignored : TurnSound m (ignoring c h (causes.Position n h.place.position)) = record { common = s; host = x } in
    either (TurnSound m) (not h.place.loaded) (brought_to n c h) (if nat_lt h.place.position n then brought_to n c h else ignoring c h (causes.Position n h.place.position))
    brought (either (TurnSound m) (nat_lt h.place.position n) (brought_to n c h) (ignoring c h (causes.Position n h.place.position)) brought ignored)

update_sound : (m : Machine) (c : Common) (h : Host) (n to : ℕ) → h.up ≡ true → is_passive c.style ≡ true → to ≤ c.ran → IsSoundCommon m c → IsSoundHost c h → TurnSound m (on_update c h n to)
update_sound m c h n to up passive le s x =
    let brought : TurnSound m (brought_to to c h) = record { common = s; host = brought_sound c h to up passive le x } in
    let ignored : TurnSound m (ignoring c h (causes.From n h.place.position)) = record { common = s; host = x } in
    let unloaded : TurnSound m (ignoring c h causes.NotLoaded) = record { common = s; host = x } in
    either (TurnSound m) (not h.place.loaded) (ignoring c h causes.NotLoaded) (if nat_eq h.place.position n then brought_to to c h else ignoring c h (causes.From n h.place.position))
    unloaded (either (TurnSound m) (nat_eq h.place.position n) (brought_to to c h) (ignoring c h (causes.From n h.place.position)) brought ignored)

not_false : (b : Bool) → not b ≡ false → b ≡ true
not_false true e = refl
not_false false e = absurd cc

on_order_sound : (m : Machine) (c : Common) (h : Host) (i : ℕ) → h.up ≡ true → (is_passive c.style ≡ true → ⊥) → i < c.ran → IsSoundCommon m c → IsSoundHost c h → TurnSound m (on_order c h i)
on_order_sound m c h i up active lt s x =
    let n = reach (holding h i).holdback h.place.position in
    let ignored : TurnSound m (ignoring c h (causes.Order i h.place.position)) = record { common = s; host = x } in
    let unloaded : TurnSound m (ignoring c h causes.NotLoaded) = record { common = s; host = x } in
    either_so (TurnSound m) (not h.place.loaded) (ignoring c h causes.NotLoaded)
    (if nat_lt i h.place.position then ignoring c h (causes.Order i h.place.position) else ordered c (holding h i) n)
    (λ not-loaded. unloaded)
    (λ loaded. either (TurnSound m) (nat_lt i h.place.position) (ignoring c h (causes.Order i h.place.position)) (ordered c (holding h i) n) ignored
    (record { common = s; host = order_sound c h i up active lt (not_false h.place.loaded loaded) x }))

view_sound : (m : Machine) (c : Common) (h : Host) (sent : ℕ) → h.up ≡ true → StillHas c sent → IsSoundCommon m c → IsSoundHost c h → TurnSound m (on_view c h sent)
view_sound m c h sent up has s x =
    either (TurnSound m) (nat_lt h.known sent) (unchanged c (record h { known = sent }) (Known (version sent))) (ignoring c h (causes.Known (version sent) (version h.known)))
    (record { common = s; host = knowing_sound c h sent up (has.1, inr has.0) x }) (record { common = s; host = x })

-- ---- changes

changed_sound : (m : Machine) (c : Common) (h : Host) (change : Change) (fails : Bool) → NamesHosts change → first_fault (change_rows c.style (newest_view c) change) ≡ None →
    IsSoundCommon m c → IsSoundHost c h → TurnSound m (changed c h (newest_view c) (next_view c.style (newest_view c) change) fails)
changed_sound m c h change true lt none s x = record { common = s; host = x }
changed_sound m c h change false lt none s x =
    let new = next_view c.style (newest_view c) change in
    let more : Common = record c { views = c.views ++ new ∷ [] } in
    record {
      common = record {
        opens = s.opens;
        views = views_go_on c change lt none s.views;
        kept = record { some = s.kept.some; last = omega (arith, s.kept.last, length-append c.views (new ∷ [])) };
        journal = s.journal;
        numbers = record { mark = s.numbers.mark; ran = s.numbers.ran; fresh = s.numbers.fresh };
      };
      host = host_stays c more h refl refl (omega (arith, length-append c.views (new ∷ []))) (omega arith) x;
    }

changed_or_sound : (m : Machine) (c : Common) (h : Host) (change : Change) (fails : Bool) (r : Option ManageFault) → NamesHosts change →
    first_fault (change_rows c.style (newest_view c) change) ≡ r → IsSoundCommon m c → IsSoundHost c h → TurnSound m (changed_or c h change fails r)
changed_or_sound m c h change fails (Some fault) lt is s x = record { common = s; host = x }
changed_or_sound m c h change fails None lt is s x = changed_sound m c h change fails lt is s x

-- ---- events

if_up_sound : (m : Machine) (c : Common) (h : Host) (t : Turn) → IsSoundCommon m c → IsSoundHost c h → (h.up ≡ true → TurnSound m t) → TurnSound m (if_up c h t)
if_up_sound m c h t s x sound = either_so (TurnSound m) h.up t (unchanged c h Down) sound (λ down. record { common = s; host = x })

turn_sound : (given : Given) (m : Machine) (g : Group) (e : Event) (fails : Bool) → IsSound m g → Agrees m e g →
    TurnSound m (turn m g.common (g.hosts (host_of e)) e fails)
turn_sound given m g (events.Request host clock asked stop) fails s a =
    let c = g.common in
    if_up_sound m c (g.hosts host.0) _ s.common (s.hosts host.0)
    (λ up. request_sound given m c (g.hosts host.0) host.0 clock.0 asked stop fails up s.common (s.hosts host.0) (λ known q is. requests_run given.forms m c host.0 known asked q a.brought.octets is))
turn_sound given m g (events.View host sent) fails s a =
    if_up_sound m g.common (g.hosts host.0) _ s.common (s.hosts host.0) (λ up. view_sound m g.common (g.hosts host.0) sent.0 up a.brought s.common (s.hosts host.0))
turn_sound given m g (events.State host n state) fails s a =
    if_up_sound m g.common (g.hosts host.0) _ s.common (s.hosts host.0)
    (λ up. state_sound m g.common (g.hosts host.0) n up (ap is_passive a.brought.0) a.brought.1 s.common (s.hosts host.0))
turn_sound given m g (events.Update host from to update) fails s a =
    if_up_sound m g.common (g.hosts host.0) _ s.common (s.hosts host.0)
    (λ up. update_sound m g.common (g.hosts host.0) from to up (ap is_passive a.brought.0) a.brought.2 s.common (s.hosts host.0))
turn_sound given m g (events.Order host i request) fails s a =
    if_up_sound m g.common (g.hosts host.0) _ s.common (s.hosts host.0)
    (λ up. on_order_sound m g.common (g.hosts host.0) i up (λ p. let both = sym (ap is_passive a.brought.0) ∙ p in absurd cc) a.brought.1.ran s.common (s.hosts host.0))
turn_sound given m g (events.Checkpoint host clock) fails s a =
    if_up_sound m g.common (g.hosts host.0) _ s.common (s.hosts host.0) (λ up. checkpoint_sound m g.common (g.hosts host.0) host.0 clock.0 fails up s.common (s.hosts host.0))
turn_sound given m g (events.SendUpdate host) fails s a =
    if_up_sound m g.common (g.hosts host.0) _ s.common (s.hosts host.0) (λ up. send_update_sound m g.common (g.hosts host.0) host.0 up s.common (s.hosts host.0))
turn_sound given m g (events.Manage change) fails s a =
    changed_or_sound m g.common (g.hosts (host_of_change change).0) change fails (first_fault (change_rows g.common.style (newest_view g.common) change)) (a.host, a.brought) refl s.common
    (s.hosts (host_of_change change).0)
turn_sound given m g (events.Crash host) fails s a = record { common = s.common; host = blank_sound g.common false }
turn_sound given m g (events.Restart host) fails s a = record { common = s.common; host = up_sound g.common (g.hosts host.0) (s.hosts host.0) }

pub step_sound : (given : Given) (m : Machine) (g : Group) (step : Step) → IsSound m g → Agrees m step.event g → IsSound m (after_step m g step)
step_sound given m g step s a =
    let at = host_of step.event in
    let t = turn m g.common (g.hosts at) step.event step.fails in
    let sound : TurnSound m t = turn_sound given m g step.event step.fails s a in
    let grows = turn_grows m g.common (g.hosts at) step.event step.fails in
    record {
      common = sound.common;
      hosts = λ i. either_so (IsSoundHost t.common) (nat_eq i at) t.host (g.hosts i) (λ same. sound.host)
          (λ other. host_stays g.common t.common (g.hosts i) grows.style grows.first_kept (views_grow g.common t.common grows) grows.ran (s.hosts i));
    }

pub groups_stay_sound : (given : Given) (m : Machine) (g : Group) (steps : List Step) → IsSound m g → AllAgree m g steps → IsSound m (after_steps m g steps)
unfolding after_steps AllAgree
groups_stay_sound given m g [] s all = s
groups_stay_sound given m g (step ∷ steps) s all = groups_stay_sound given m (after_step m g step) steps (step_sound given m g step s all.0) all.1
