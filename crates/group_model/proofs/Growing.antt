-- Journals and views only grow.
use Rattle.std.proofs.Common.{◌≡◌, ℕ, zero, suc, ◌+◌, ◌<◌, ◌≤◌, max, Bool, true, false, if◌then◌else◌, List, [], ◌∷◌, ◌++◌, length, take, Option, Some, None, Result, Ok, Err, refl, sym, ap, ◌∙◌, append_assoc, append-nil, arith}
use Rattle.ft_base.specs.Machine.{Machine}
use Rattle.ft_base.specs.Journal.{Entry, after, reply_at}
use Rattle.ft_base.specs.declared.decisions.Stop.{Stop}
use Rattle.ft_base.specs.declared.decisions.Stop.TheVariants.{Never, AfterAppend, AfterExecute}
use Rattle.ft_base.specs.declared.requests.Request.{Request}
use Rattle.ft_base.specs.declared.views.View.{View}
use Rattle.group_model.specs.declared.asking.Asked.{Asked}
use Rattle.group_model.specs.declared.changes.Change.{Change}
use Rattle.group_model.specs.declared.changes.ManageFault.{ManageFault}
use Rattle.group_model.specs.declared.events.Event.{Event}
use Rattle.group_model.specs.declared.events.Event.TheVariants as events
use Rattle.group_model.specs.declared.refusals.Refusal.{Refusal}
use Rattle.group_model.specs.Plain.{Common, Host, Group, reach, with_ran, caught_up, state_at}
use Rattle.group_model.specs.Turns.{Turn, unchanged}
use Rattle.group_model.specs.Views.{version, newest, newest_view}
use Rattle.group_model.specs.Decisions.{known_then, request_in}
use Rattle.ft_base.specs.Admissions.{admission}
use Rattle.ft_base.specs.declared.admissions.Admission.{Admission}
use Rattle.ft_base.specs.declared.admissions.Admission.TheVariants.{Expired, Same, Other, Full, New}
use Rattle.group_model.specs.Serving.{joined, accepted, admitted, served, served_or, unless_bad, on_request}
use Rattle.std.specs.Prelude.{not, nat_lt, nat_eq}
use Rattle.ft_base.specs.declared.decisions.Ignored.TheVariants as causes
use Rattle.group_model.specs.declared.events.GroupAnswer.TheVariants.{Known, Down}
use Rattle.group_model.specs.Transfers.{brought_to, ignoring, holding, ordered, taking, marked, checkpoint_written, on_checkpoint, on_state, on_update, on_order, on_view}
use Rattle.group_model.specs.Changes.{changed, changed_or, next_view, first_fault, change_rows}
use Rattle.group_model.specs.Events.{if_up, turn, host_of}
use Rattle.group_model.specs.Runs.{Step, after_step, after_steps}
use Rattle.group_model.specs.Laws.{Grows}

-- ---- growing

pub grows_itself : (c : Common) → Grows c c
grows_itself c = record {
  id = refl;
  style = refl;
  kind = refl;
  opening = refl;
  more = [];
  journal = sym (append-nil c.journal);
  newer = [];
  views = sym (append-nil c.views);
  first_kept = refl;
  time = omega arith;
  ran = omega arith;
}

pub grows_on : (a b c : Common) → Grows a b → Grows b c → Grows a c
grows_on a b c x y = record {
  id = y.id ∙ x.id;
  style = y.style ∙ x.style;
  kind = y.kind ∙ x.kind;
  opening = y.opening ∙ x.opening;
  more = x.more ++ y.more;
  journal = y.journal ∙ ap (λ (es : List Entry). es ++ y.more) x.journal ∙ append_assoc a.journal x.more y.more;
  newer = x.newer ++ y.newer;
  views = y.views ∙ ap (λ (vs : List View). vs ++ y.newer) x.views ∙ append_assoc a.views x.newer y.newer;
  first_kept = y.first_kept ∙ x.first_kept;
  time = omega (arith, x.time, y.time);
  ran = omega (arith, x.ran, y.ran);
}

le_max_left : (m n : ℕ) → m ≤ max m n
le_max_left m n = omega arith

le_max_right : (m n : ℕ) → n ≤ max m n
le_max_right m n = omega arith

pub with_ran_grows : (n : ℕ) (c : Common) → Grows c (with_ran n c)
with_ran_grows n c = record {
  id = refl;
  style = refl;
  kind = refl;
  opening = refl;
  more = [];
  journal = sym (append-nil c.journal);
  newer = [];
  views = sym (append-nil c.views);
  first_kept = refl;
  time = omega arith;
  ran = le_max_left c.ran n;
}

joined_grows : (c : Common) (now : ℕ) (q : Request) → c.time ≤ now → Grows c (joined c now q)
joined_grows c now q later = record {
  id = refl;
  style = refl;
  kind = refl;
  opening = refl;
  more = record { at = now; request = q } ∷ [];
  journal = refl;
  newer = [];
  views = sym (append-nil c.views);
  first_kept = refl;
  time = later;
  ran = omega arith;
}

-- ---- a turn

abbrev TurnGrows : Common → Turn → Type 0
TurnGrows c t = Grows c t.common

pub either : (P : Turn → Type 0) (b : Bool) (x y : Turn) → P x → P y → P (if b then x else y)
either P true x y p q = p
either P false x y p q = q

accepted_grows : (m : Machine) (c : Common) (h : Host) (host now : ℕ) (q : Request) (stop : Stop) → c.time ≤ now →
    TurnGrows c (accepted m c h host now q stop)
accepted_grows m c h host now q Never later =
    grows_on c (joined c now q) (with_ran (length c.journal + 1) (joined c now q)) (joined_grows c now q later) (with_ran_grows (length c.journal + 1) (joined c now q))
accepted_grows m c h host now q AfterAppend later = joined_grows c now q later
accepted_grows m c h host now q AfterExecute later =
    grows_on c (joined c now q) (with_ran (length c.journal + 1) (joined c now q)) (joined_grows c now q later) (with_ran_grows (length c.journal + 1) (joined c now q))

admitted_grows : (m : Machine) (c : Common) (h : Host) (host now : ℕ) (q : Request) (stop : Stop) (fails : Bool) (a : Admission) → c.time ≤ now →
    TurnGrows c (admitted m c h host now q stop fails a)
admitted_grows m c h host now q stop fails (Expired e) later = grows_itself c
admitted_grows m c h host now q stop fails (Same i) later = grows_itself c
admitted_grows m c h host now q stop fails (Other i) later = grows_itself c
admitted_grows m c h host now q stop fails Full later = grows_itself c
admitted_grows m c h host now q stop true New later = grows_itself c
admitted_grows m c h host now q stop false New later = accepted_grows m c h host now q stop later

served_grows : (m : Machine) (c : Common) (h : Host) (host clock : ℕ) (q : Request) (stop : Stop) (fails : Bool) →
    TurnGrows c (served m c h host clock q stop fails)
served_grows m c h host clock q stop fails =
    admitted_grows m c h host (max clock c.time) q stop fails (admission c.journal (max clock c.time) q) (le_max_right clock c.time)

served_or_grows : (m : Machine) (c : Common) (h : Host) (host clock : ℕ) (stop : Stop) (fails : Bool) (r : Result Request Refusal) →
    TurnGrows c (served_or m c h host clock stop fails r)
served_or_grows m c h host clock stop fails (Err refused) = grows_itself c
served_or_grows m c h host clock stop fails (Ok q) =
    let ran = with_ran (length c.journal) c in
    grows_on c ran _ (with_ran_grows (length c.journal) c) (served_grows m ran (caught_up c h) host clock q stop fails)

unless_bad_grows : (bad : Option ℕ) (c : Common) (h : Host) (t : Turn) → TurnGrows c t → TurnGrows c (unless_bad bad c h t)
unless_bad_grows None c h t grows = grows
unless_bad_grows (Some id) c h t grows = grows_itself c

request_grows : (m : Machine) (c : Common) (h : Host) (host clock : ℕ) (asked : Asked) (stop : Stop) (fails : Bool) →
    TurnGrows c (on_request m c h host clock asked stop fails)
request_grows m c h host clock asked stop fails =
    let h' = record h { known = known_then (newest c) h.known asked.version } in
    unless_bad_grows asked.bad_context c h _ (served_or_grows m c h' host clock stop fails (request_in m c host h'.known asked))

marked_grows : (c : Common) (clock : ℕ) → Grows c (marked c clock)
marked_grows c clock = record {
  id = refl;
  style = refl;
  kind = refl;
  opening = refl;
  more = [];
  journal = sym (append-nil c.journal);
  newer = [];
  views = sym (append-nil c.views);
  first_kept = refl;
  time = le_max_left c.time clock;
  ran = omega arith;
}

written_grows : (m : Machine) (c : Common) (h : Host) (host clock : ℕ) (fails : Bool) → TurnGrows c (checkpoint_written m c h host clock fails)
written_grows m c h host clock true = grows_itself c
written_grows m c h host clock false = marked_grows c clock

checkpoint_grows : (m : Machine) (c : Common) (h : Host) (host clock : ℕ) (fails : Bool) → TurnGrows c (on_checkpoint m c h host clock fails)
checkpoint_grows m c h host clock fails =
    let ran = with_ran (length c.journal) c in
    grows_on c ran _ (with_ran_grows (length c.journal) c) (written_grows m ran (taking c h) host clock fails)

changed_grows : (c : Common) (h : Host) (old new : View) (fails : Bool) → TurnGrows c (changed c h old new fails)
changed_grows c h old new true = grows_itself c
changed_grows c h old new false = record {
  id = refl;
  style = refl;
  kind = refl;
  opening = refl;
  more = [];
  journal = sym (append-nil c.journal);
  newer = new ∷ [];
  views = refl;
  first_kept = refl;
  time = omega arith;
  ran = omega arith;
}

changed_or_grows : (c : Common) (h : Host) (change : Change) (fails : Bool) (r : Option ManageFault) → TurnGrows c (changed_or c h change fails r)
changed_or_grows c h change fails (Some fault) = grows_itself c
changed_or_grows c h change fails None = changed_grows c h (newest_view c) (next_view c.style (newest_view c) change) fails

if_up_grows : (c : Common) (h : Host) (t : Turn) → TurnGrows c t → TurnGrows c (if_up c h t)
if_up_grows c h t grows = either (TurnGrows c) h.up t (unchanged c h Down) grows (grows_itself c)

-- one of three turns that leave what the hosts share
one_of_three : (c : Common) (b d : Bool) (x y z : Turn) → TurnGrows c x → TurnGrows c y → TurnGrows c z →
    TurnGrows c (if b then x else (if d then y else z))
one_of_three c b d x y z p q r = either (TurnGrows c) b x (if d then y else z) p (either (TurnGrows c) d y z q r)

state_grows : (c : Common) (h : Host) (n : ℕ) → TurnGrows c (on_state c h n)
state_grows c h n =
    one_of_three c (not h.place.loaded) (nat_lt h.place.position n) (brought_to n c h) (brought_to n c h) (ignoring c h (causes.Position n h.place.position))
    (grows_itself c) (grows_itself c) (grows_itself c)

update_grows : (c : Common) (h : Host) (n to : ℕ) → TurnGrows c (on_update c h n to)
update_grows c h n to =
    one_of_three c (not h.place.loaded) (nat_eq h.place.position n) (ignoring c h causes.NotLoaded) (brought_to to c h) (ignoring c h (causes.From n h.place.position))
    (grows_itself c) (grows_itself c) (grows_itself c)

order_grows : (c : Common) (h : Host) (i : ℕ) → TurnGrows c (on_order c h i)
order_grows c h i =
    one_of_three c (not h.place.loaded) (nat_lt i h.place.position) (ignoring c h causes.NotLoaded) (ignoring c h (causes.Order i h.place.position))
    (ordered c (holding h i) (reach (holding h i).holdback h.place.position))
    (grows_itself c) (grows_itself c) (grows_itself c)

view_grows : (c : Common) (h : Host) (sent : ℕ) → TurnGrows c (on_view c h sent)
view_grows c h sent =
    either (TurnGrows c) (nat_lt h.known sent) (unchanged c (record h { known = sent }) (Known (version sent))) (ignoring c h (causes.Known (version sent) (version h.known)))
    (grows_itself c) (grows_itself c)

pub turn_grows : (m : Machine) (c : Common) (h : Host) (e : Event) (fails : Bool) → TurnGrows c (turn m c h e fails)
turn_grows m c h (events.Request host clock asked stop) fails = if_up_grows c h _ (request_grows m c h host.0 clock.0 asked stop fails)
turn_grows m c h (events.View host sent) fails = if_up_grows c h _ (view_grows c h sent.0)
turn_grows m c h (events.State host n state) fails = if_up_grows c h _ (state_grows c h n)
turn_grows m c h (events.Update host from to update) fails = if_up_grows c h _ (update_grows c h from to)
turn_grows m c h (events.Order host i request) fails = if_up_grows c h _ (order_grows c h i)
turn_grows m c h (events.Checkpoint host clock) fails = if_up_grows c h _ (checkpoint_grows m c h host.0 clock.0 fails)
turn_grows m c h (events.SendUpdate host) fails = if_up_grows c h _ (with_ran_grows (length c.journal) c)
turn_grows m c h (events.Manage change) fails = changed_or_grows c h change fails (first_fault (change_rows c.style (newest_view c) change))
turn_grows m c h (events.Crash host) fails = grows_itself c
turn_grows m c h (events.Restart host) fails = grows_itself c

-- ---- a list of events

pub steps_grow : (m : Machine) (g : Group) (steps : List Step) → Grows g.common (after_steps m g steps).common
unfolding after_steps
steps_grow m g [] = grows_itself g.common
steps_grow m g (s ∷ steps) =
    grows_on g.common (after_step m g s).common _ (turn_grows m g.common (g.hosts (host_of s.event)) s.event s.fails) (steps_grow m (after_step m g s) steps)

-- ---- what stays

-- replies and states are those of the front of the journal
pub reply_at-append : (m : Machine) (s : List ℕ) (es more : List Entry) (i : ℕ) → i < length es → reply_at m s (es ++ more) i ≡ reply_at m s es i
unfolding reply_at
reply_at-append m s [] more i h = absurd (omega (arith, h))
reply_at-append m s (e ∷ es) more zero h = refl
reply_at-append m s (e ∷ es) more (suc i) h = reply_at-append m (m.step s e.request).0 es more i (omega (arith, h))

take-append : (n : ℕ) (es more : List Entry) → n ≤ length es → take n (es ++ more) ≡ take n es
take-append zero es more h = refl
take-append (suc n) [] more h = absurd (omega (arith, h))
take-append (suc n) (e ∷ es) more h = ap (λ (xs : List Entry). e ∷ xs) (take-append n es more (omega (arith, h)))

pub replies_stay : (m : Machine) (c after : Common) → Grows c after → (i : ℕ) → i < length c.journal →
    reply_at m after.opening after.journal i ≡ reply_at m c.opening c.journal i
replies_stay m c after x i h =
    ap (λ (s : List ℕ). reply_at m s after.journal i) x.opening ∙ ap (λ (es : List Entry). reply_at m c.opening es i) x.journal
    ∙ reply_at-append m c.opening c.journal x.more i h

pub states_stay : (m : Machine) (c later : Common) → Grows c later → (n : ℕ) → n ≤ length c.journal → state_at m later n ≡ state_at m c n
states_stay m c later x n h =
    ap (λ (s : List ℕ). after m s (take n later.journal)) x.opening ∙ ap (λ (es : List Entry). after m c.opening (take n es)) x.journal
    ∙ ap (after m c.opening) (take-append n c.journal x.more h)
