-- What every turn leaves of what the hosts share, whether its event agrees or not.
use Rattle.std.proofs.Common.{◌≡◌, ℕ, ◌≤◌, max, Bool, true, false, List, ◌∷◌, [], Option, Some, None, Result, Ok, Err, refl, ◌+◌, length-append, arith}
use Rattle.std.specs.Prelude.{if◌then◌else◌, nat_eq, nat_lt, not, length}
use Rattle.ft_base.specs.Machine.{Machine}
use Rattle.ft_base.specs.Journal.{Entry, IsJournal}
use Rattle.ft_base.specs.Laws.{JournalGoesOn}
use Rattle.ft_base.specs.declared.decisions.Ignored.TheVariants as causes
use Rattle.ft_base.specs.declared.decisions.Stop.{Stop}
use Rattle.ft_base.specs.declared.decisions.Stop.TheVariants.{Never, AfterAppend, AfterExecute}
use Rattle.ft_base.specs.declared.requests.Request.{Request}
use Rattle.ft_base.specs.declared.views.View.{View}
use Rattle.group_model.specs.declared.asking.Asked.{Asked}
use Rattle.group_model.specs.declared.changes.Change.{Change}
use Rattle.group_model.specs.declared.changes.ManageFault.{ManageFault}
use Rattle.group_model.specs.declared.events.Event.{Event}
use Rattle.group_model.specs.declared.events.Event.TheVariants as events
use Rattle.group_model.specs.declared.events.GroupAnswer.TheVariants.{Down, Known}
use Rattle.group_model.specs.declared.refusals.Refusal.{Refusal}
use Rattle.ft_base.specs.Admissions.{admission}
use Rattle.ft_base.specs.declared.admissions.Admission.{Admission}
use Rattle.ft_base.specs.declared.admissions.Admission.TheVariants.{Expired, Same, Other, Full, New}
use Rattle.group_model.specs.Changes.{with_view, changed, changed_or, change_rows, first_fault, next_view}
use Rattle.group_model.specs.Decisions.{known_then, request_in}
use Rattle.group_model.specs.Events.{host_of, if_up, turn}
use Rattle.group_model.specs.Laws.{JournalsStay, NoneRunsAhead}
use Rattle.group_model.specs.Plain.{Common, Group, Host, caught_up, reach, with_ran}
use Rattle.group_model.specs.Runs.{Step, after_step, after_steps}
use Rattle.group_model.specs.Serving.{accepted, admitted, joined, on_request, served_or, unless_bad}
use Rattle.group_model.specs.Transfers.{marked, brought_to, checkpoint_written, holding, ignoring, on_checkpoint, on_order, on_send_update, on_state, on_update, on_view, ordered, taking}
use Rattle.group_model.specs.Turns.{Turn, unchanged}
use Rattle.group_model.specs.Views.{newest, newest_view, version}
use Rattle.group_model.proofs.Joining.{is_new}

-- What catching up, checkpoints, views and new entries leave of what the hosts share, every turn leaves.
module _ (m : Machine) (Q : Common → Type 0) (ran : (c : Common) (n : ℕ) → n ≤ length c.journal → Q c → Q (with_ran n c)) (marks : (c : Common) (clock : ℕ) → Q c → Q (marked c clock))
    (views : (c : Common) (view : View) → Q c → Q (with_view c view))
    (joins : (c : Common) (now : ℕ) (q : Request) → Q c → c.time ≤ now → admission c.journal now q ≡ New → Q (joined c now q)) where
  -- up to the journal's end
  ran_all : (c : Common) → Q c → Q (with_ran (length c.journal) c)
  ran_all c s = ran c (length c.journal) (let le : length c.journal ≤ length c.journal = omega arith in le) s

  ran_one : (c : Common) (now : ℕ) (q : Request) → Q (joined c now q) → Q (with_ran (length c.journal + 1) (joined c now q))
  ran_one c now q s =
      let one = length-append c.journal (record { at = now; request = q } ∷ []) in
      ran (joined c now q) (length c.journal + 1) (let le : length c.journal + 1 ≤ length (joined c now q).journal = omega (arith, one) in le) s

  either : (b : Bool) (t u : Turn) → Q t.common → Q u.common → Q (if b then t else u).common
  either true t u s v = s
  either false t u s v = v

  accepted_stands : (c : Common) (h : Host) (host now : ℕ) (q : Request) (stop : Stop) → Q (joined c now q) → Q (accepted m c h host now q stop).common
  accepted_stands c h host now q Never s = ran_one c now q s
  accepted_stands c h host now q AfterAppend s = s
  accepted_stands c h host now q AfterExecute s = ran_one c now q s

  admitted_stands : (c : Common) (h : Host) (host now : ℕ) (q : Request) (stop : Stop) (fails : Bool) (a : Admission) → Q c → c.time ≤ now →
      admission c.journal now q ≡ a → Q (admitted m c h host now q stop fails a).common
  admitted_stands c h host now q stop fails (Expired e) s le is = s
  admitted_stands c h host now q stop fails (Same i) s le is = s
  admitted_stands c h host now q stop fails (Other i) s le is = s
  admitted_stands c h host now q stop fails Full s le is = s
  admitted_stands c h host now q stop true New s le is = s
  admitted_stands c h host now q stop false New s le is = accepted_stands c h host now q stop (joins c now q s le is)

  served_stands : (c : Common) (h : Host) (host clock : ℕ) (stop : Stop) (fails : Bool) (r : Result Request Refusal) → Q c → Q (served_or m c h host clock stop fails r).common
  served_stands c h host clock stop fails (Err refused) s = s
  served_stands c h host clock stop fails (Ok q) s =
      let now = max clock c.time in
      admitted_stands (with_ran (length c.journal) c) (caught_up c h) host now q stop fails (admission c.journal now q) (ran_all c s)
      (let le : c.time ≤ now = omega arith in le) refl

  unless_stands : (bad : Option ℕ) (c : Common) (h : Host) (t : Turn) → Q c → Q t.common → Q (unless_bad bad c h t).common
  unless_stands None c h t s v = v
  unless_stands (Some id) c h t s v = s

  request_stands : (c : Common) (h : Host) (host clock : ℕ) (asked : Asked) (stop : Stop) (fails : Bool) → Q c →
      Q (on_request m c h host clock asked stop fails).common
  request_stands c h host clock asked stop fails s =
      let known : Host = record h { known = known_then (newest c) h.known asked.version } in
      let r : Result Request Refusal = request_in m c host known.known asked in
      unless_stands asked.bad_context c h (served_or m c known host clock stop fails r) s (served_stands c known host clock stop fails r s)

  written_stands : (c : Common) (h : Host) (host clock : ℕ) (fails : Bool) → Q c → Q (checkpoint_written m c h host clock fails).common
  written_stands c h host clock true s = s
  written_stands c h host clock false s = marks c clock s

  state_stands : (c : Common) (h : Host) (n : ℕ) → Q c → Q (on_state c h n).common
  state_stands c h n s =
      let less : Turn = if nat_lt h.place.position n then brought_to n c h else ignoring c h (causes.Position n h.place.position) in
      either (not h.place.loaded) (brought_to n c h) less s
      (either (nat_lt h.place.position n) (brought_to n c h) (ignoring c h (causes.Position n h.place.position)) s s)

  update_stands : (c : Common) (h : Host) (n to : ℕ) → Q c → Q (on_update c h n to).common
  update_stands c h n to s =
      let there : Turn = if nat_eq h.place.position n then brought_to to c h else ignoring c h (causes.From n h.place.position) in
      either (not h.place.loaded) (ignoring c h causes.NotLoaded) there s
      (either (nat_eq h.place.position n) (brought_to to c h) (ignoring c h (causes.From n h.place.position)) s s)

  order_stands : (c : Common) (h : Host) (i : ℕ) → Q c → Q (on_order c h i).common
  order_stands c h i s =
      let runs : Turn = ordered c (holding h i) (reach (holding h i).holdback h.place.position) in
      let old : Turn = ignoring c h (causes.Order i h.place.position) in
      either (not h.place.loaded) (ignoring c h causes.NotLoaded) (if nat_lt i h.place.position then old else runs) s
      (either (nat_lt i h.place.position) old runs s s)

  view_stands : (c : Common) (h : Host) (sent : ℕ) → Q c → Q (on_view c h sent).common
  view_stands c h sent s =
      either (nat_lt h.known sent) (unchanged c (record h { known = sent }) (Known (version sent))) (ignoring c h (causes.Known (version sent) (version h.known))) s s

  changed_stands : (c : Common) (h : Host) (old new : View) (fails : Bool) → Q c → Q (changed c h old new fails).common
  changed_stands c h old new true s = s
  changed_stands c h old new false s = views c new s

  manage_stands : (c : Common) (h : Host) (change : Change) (fails : Bool) (o : Option ManageFault) → Q c → Q (changed_or c h change fails o).common
  manage_stands c h change fails (Some fault) s = s
  manage_stands c h change fails None s = changed_stands c h (newest_view c) (next_view c.style (newest_view c) change) fails s

  up_stands : (c : Common) (h : Host) (t : Turn) → Q c → Q t.common → Q (if_up c h t).common
  up_stands c h t s v = go h.up
    where
      go : (b : Bool) → Q (if b then t else unchanged c h Down).common
      go true = v
      go false = s

  turn_stands : (c : Common) (h : Host) (e : Event) (fails : Bool) → Q c → Q (turn m c h e fails).common
  turn_stands c h (events.Request host clock asked stop) fails s = up_stands c h (on_request m c h host.0 clock.0 asked stop fails) s (request_stands c h host.0 clock.0 asked stop fails s)
  turn_stands c h (events.View host sent) fails s = up_stands c h (on_view c h sent.0) s (view_stands c h sent.0 s)
  turn_stands c h (events.State host position state) fails s = up_stands c h (on_state c h position) s (state_stands c h position s)
  turn_stands c h (events.Update host from to update) fails s = up_stands c h (on_update c h from to) s (update_stands c h from to s)
  turn_stands c h (events.Order host index request) fails s = up_stands c h (on_order c h index) s (order_stands c h index s)
  turn_stands c h (events.Checkpoint host clock) fails s = up_stands c h (on_checkpoint m c h host.0 clock.0 fails) s (written_stands (with_ran (length c.journal) c) (taking c h) host.0 clock.0 fails (ran_all c s))
  turn_stands c h (events.SendUpdate host) fails s = up_stands c h (on_send_update m c h host.0) s (ran_all c s)
  turn_stands c h (events.Manage change) fails s = manage_stands c h change fails (first_fault (change_rows c.style (newest_view c) change)) s
  turn_stands c h (events.Crash host) fails s = s
  turn_stands c h (events.Restart host) fails s = s

-- ---- a list of events

-- what is so of the common part
module _ (m : Machine) (Q : Common → Type 0) (turns : (c : Common) (h : Host) (e : Event) (fails : Bool) → Q c → Q (turn m c h e fails).common) where
  pub steps_stand : (g : Group) (steps : List Step) → Q g.common → Q (after_steps m g steps).common
  unfolding after_steps
  steps_stand g [] s = s
  steps_stand g (step ∷ steps) s = steps_stand (after_step m g step) steps (turns g.common (g.hosts (host_of step.event)) step.event step.fails s)

-- the journal is one up to the group's time
abbrev Stands : Common → Type 0
Stands c = IsJournal c.time c.journal

later : (time now : ℕ) (journal : List Entry) → IsJournal time journal → time ≤ now → IsJournal now journal
later time now journal is le = record {
  before = λ i entry at. let early = is.before i entry at in omega (arith, early, le);
  ticks = is.ticks;
  once = is.once;
}

joins_once : JournalGoesOn → (c : Common) (now : ℕ) (q : Request) → Stands c → c.time ≤ now → admission c.journal now q ≡ New → Stands (joined c now q)
joins_once goes c now q s le new =
    let free = is_new c.journal now q new in
    goes c.time c.journal (record { at = now; request = q }) s le (record { in_time = free.in_time; free = free.free })

turn_once : JournalGoesOn → (m : Machine) (c : Common) (h : Host) (e : Event) (fails : Bool) → Stands c → Stands (turn m c h e fails).common
turn_once goes m c h e fails s =
    turn_stands m Stands (λ d n le t. t) (λ d clock t. later d.time (max d.time clock) d.journal t (let le : d.time ≤ max d.time clock = omega arith in le)) (λ d view t. t)
    (joins_once goes) c h e fails s

pub journals_stay : JournalGoesOn → JournalsStay
journals_stay goes m g steps s = steps_stand m Stands (turn_once goes m) g steps s

-- no host is past its end
abbrev Within : Common → Type 0
Within c = c.ran ≤ length c.journal

pub turn_within : (m : Machine) (c : Common) (h : Host) (e : Event) (fails : Bool) → Within c → Within (turn m c h e fails).common
turn_within m c h e fails s =
    turn_stands m Within (λ d n le t. let both : max d.ran n ≤ length d.journal = omega (arith, le, t) in both) (λ d clock t. t) (λ d view t. t)
    (λ d now q t le new. let one = length-append d.journal (record { at = now; request = q } ∷ []) in omega (arith, t, one)) c h e fails s

pub none_runs_ahead : NoneRunsAhead
none_runs_ahead m g steps s = steps_stand m Within (turn_within m) g steps s
