-- A refusal leaves all but what its host knows, and what catching up moved.
use Rattle.std.proofs.Common.{◌≡◌, ℕ, ◌⊎◌, inl, inr, Bool, true, false, length, Option, Some, None, Result, Ok, Err, refl, ap, max, if◌then◌else◌}
use Rattle.std.specs.Prelude.{nat_lt, nat_eq, not}
use Rattle.ft_base.specs.Machine.{Machine}
use Rattle.ft_base.specs.declared.decisions.Ignored.TheVariants as causes
use Rattle.ft_base.specs.declared.decisions.Stop.{Stop}
use Rattle.ft_base.specs.declared.decisions.Stop.TheVariants.{Never, AfterAppend, AfterExecute}
use Rattle.ft_base.specs.declared.requests.Request.{Request}
use Rattle.ft_base.specs.declared.views.View.{View}
use Rattle.group_model.specs.declared.asking.Asked.{Asked}
use Rattle.group_model.specs.declared.changes.Change.{Change}
use Rattle.group_model.specs.declared.changes.ManageFault.{ManageFault}
use Rattle.group_model.specs.declared.events.Event.{Event}
use Rattle.group_model.specs.declared.events.Event.TheVariants as events
use Rattle.group_model.specs.declared.events.GroupAnswer.{GroupAnswer}
use Rattle.group_model.specs.declared.events.GroupAnswer.TheVariants.{Known, Down, Applied, Held}
use Rattle.group_model.specs.declared.refusals.Refusal.{Refusal}
use Rattle.group_model.specs.Plain.{Common, Host, Group, reach, with_ran, caught_up, put}
use Rattle.group_model.specs.Turns.{Turn, unchanged}
use Rattle.group_model.specs.Views.{version, newest, newest_view}
use Rattle.group_model.specs.Decisions.{known_then, request_in}
use Rattle.ft_base.specs.Admissions.{admission}
use Rattle.ft_base.specs.declared.admissions.Admission.{Admission}
use Rattle.ft_base.specs.declared.admissions.Admission.TheVariants.{Expired, Same, Other, Full, New}
use Rattle.group_model.specs.Serving.{accepted, admitted, served_or, unless_bad, on_request}
use Rattle.group_model.specs.Transfers.{brought_to, ignoring, holding, ordered, taking, checkpoint_written, on_checkpoint, on_send_update, on_state, on_update, on_order, on_view}
use Rattle.group_model.specs.Changes.{changed, changed_or, next_view, first_fault, change_rows}
use Rattle.group_model.specs.Events.{if_up, turn, turn_of, host_of, after_event}
use Rattle.group_model.specs.Laws.{IsRefused, OnlyKnowsOrCaughtUp}
use Rattle.group_model.proofs.Choosing.{either_so}
use Rattle.group_model.proofs.Growing.{either}

-- a turn left these
abbrev Left : Turn → Common → Host → Type 0
Left t c h = ◌≡◌ {A = Common × Host} (t.common, t.host) (c, h)

-- what a refusal leaves, at a host that knows some version
abbrev Leaves : Common → Host → Turn → Type 0
Leaves c h t = IsRefused t.answer →
    ((known : ℕ) × Left t c (record h { known = known }))
    ⊎ ((known : ℕ) × Left t (with_ran (length c.journal) c) (caught_up c (record h { known = known })))

-- of a host that caught up
abbrev LeavesIt : Common → Host → Turn → Type 0
LeavesIt c h t = IsRefused t.answer → Left t c h

accepted_leaves : (m : Machine) (c : Common) (h : Host) (host now : ℕ) (q : Request) (stop : Stop) → LeavesIt c h (accepted m c h host now q stop)
accepted_leaves m c h host now q Never = λ r. absurd r
accepted_leaves m c h host now q AfterAppend = λ r. absurd r
accepted_leaves m c h host now q AfterExecute = λ r. absurd r

admitted_leaves : (m : Machine) (c : Common) (h : Host) (host now : ℕ) (q : Request) (stop : Stop) (fails : Bool) (a : Admission) →
    LeavesIt c h (admitted m c h host now q stop fails a)
admitted_leaves m c h host now q stop fails (Expired e) = λ r. refl
admitted_leaves m c h host now q stop fails (Same i) = λ r. refl
admitted_leaves m c h host now q stop fails (Other i) = λ r. refl
admitted_leaves m c h host now q stop fails Full = λ r. refl
admitted_leaves m c h host now q stop true New = λ r. refl
admitted_leaves m c h host now q stop false New = accepted_leaves m c h host now q stop

served_or_leaves : (m : Machine) (c : Common) (h : Host) (known host clock : ℕ) (stop : Stop) (fails : Bool) (r : Result Request Refusal) →
    Leaves c h (served_or m c (record h { known = known }) host clock stop fails r)
served_or_leaves m c h known host clock stop fails (Err refused) = λ r. inl (refused.known.0, refl)
served_or_leaves m c h known host clock stop fails (Ok q) =
    let now = max clock c.time in
    λ r. inr (known, admitted_leaves m (with_ran (length c.journal) c) (caught_up c (record h { known = known })) host now q stop fails (admission c.journal now q) r)

unless_bad_leaves : (bad : Option ℕ) (c : Common) (h : Host) (t : Turn) → Leaves c h t → Leaves c h (unless_bad bad c h t)
unless_bad_leaves None c h t leaves = leaves
unless_bad_leaves (Some id) c h t leaves = λ r. inl (h.known, refl)

request_leaves : (m : Machine) (c : Common) (h : Host) (host clock : ℕ) (asked : Asked) (stop : Stop) (fails : Bool) → Leaves c h (on_request m c h host clock asked stop fails)
request_leaves m c h host clock asked stop fails =
    let known = known_then (newest c) h.known asked.version in
    unless_bad_leaves asked.bad_context c h (served_or m c (record h { known = known }) host clock stop fails (request_in m c host known asked))
    (served_or_leaves m c h known host clock stop fails (request_in m c host known asked))

written_leaves : (m : Machine) (c : Common) (h : Host) (host clock : ℕ) (fails : Bool) → LeavesIt c h (checkpoint_written m c h host clock fails)
written_leaves m c h host clock true = λ r. refl
written_leaves m c h host clock false = λ r. absurd r

checkpoint_leaves : (m : Machine) (c : Common) (h : Host) (host clock : ℕ) (fails : Bool) → Leaves c h (on_checkpoint m c h host clock fails)
checkpoint_leaves m c h host clock fails =
    λ r. inr (newest c, written_leaves m (with_ran (length c.journal) c) (taking c h) host clock fails r)

changed_leaves : (c : Common) (h : Host) (old new : View) (fails : Bool) → Leaves c h (changed c h old new fails)
changed_leaves c h old new true = λ r. inl (h.known, refl)
changed_leaves c h old new false = λ r. absurd r

changed_or_leaves : (c : Common) (h : Host) (change : Change) (fails : Bool) (r : Option ManageFault) → Leaves c h (changed_or c h change fails r)
changed_or_leaves c h change fails (Some fault) = λ r. inl (h.known, refl)
changed_or_leaves c h change fails None = changed_leaves c h (newest_view c) (next_view c.style (newest_view c) change) fails

if_up_leaves : (c : Common) (h : Host) (t : Turn) → Leaves c h t → Leaves c h (if_up c h t)
if_up_leaves c h t leaves = either (Leaves c h) h.up t (unchanged c h Down) leaves (λ r. absurd r)

one_of_three : (P : Turn → Type 0) (b d : Bool) (x y z : Turn) → P x → P y → P z → P (if b then x else (if d then y else z))
one_of_three P b d x y z p q r = either P b x (if d then y else z) p (either P d y z q r)

ordered_leaves : (c : Common) (h : Host) (i n : ℕ) → Leaves c h (ordered c (holding h i) n)
ordered_leaves c h i n =
    let p = h.place.position in
    let never : IsRefused (if nat_lt p n then Applied n else Held p) → ⊥ =
    either_so (λ (a : GroupAnswer). IsRefused a → ⊥) (nat_lt p n) (Applied n) (Held p) (λ on. λ r. r) (λ held. λ r. r) in
    λ r. absurd (never r)

turn_leaves : (m : Machine) (c : Common) (h : Host) (e : Event) (fails : Bool) → Leaves c h (turn m c h e fails)
turn_leaves m c h (events.Request host clock asked stop) fails =
    if_up_leaves c h (on_request m c h host.0 clock.0 asked stop fails) (request_leaves m c h host.0 clock.0 asked stop fails)
turn_leaves m c h (events.View host sent) fails =
    if_up_leaves c h (on_view c h sent.0)
    (either (Leaves c h) (nat_lt h.known sent.0) (unchanged c (record h { known = sent.0 }) (Known (version sent.0))) (ignoring c h (causes.Known (version sent.0) (version h.known)))
    (λ r. absurd r) (λ r. inl (h.known, refl)))
turn_leaves m c h (events.State host n state) fails =
    if_up_leaves c h (on_state c h n)
    (one_of_three (Leaves c h) (not h.place.loaded) (nat_lt h.place.position n) (brought_to n c h) (brought_to n c h) (ignoring c h (causes.Position n h.place.position))
    (λ r. absurd r) (λ r. absurd r) (λ r. inl (h.known, refl)))
turn_leaves m c h (events.Update host from to update) fails =
    if_up_leaves c h (on_update c h from to)
    (one_of_three (Leaves c h) (not h.place.loaded) (nat_eq h.place.position from) (ignoring c h causes.NotLoaded) (brought_to to c h) (ignoring c h (causes.From from h.place.position))
    (λ r. inl (h.known, refl)) (λ r. absurd r) (λ r. inl (h.known, refl)))
turn_leaves m c h (events.Order host i q) fails =
    if_up_leaves c h (on_order c h i)
    (one_of_three (Leaves c h) (not h.place.loaded) (nat_lt i h.place.position) (ignoring c h causes.NotLoaded) (ignoring c h (causes.Order i h.place.position))
    (ordered c (holding h i) (reach (holding h i).holdback h.place.position))
    (λ r. inl (h.known, refl)) (λ r. inl (h.known, refl)) (ordered_leaves c h i (reach (holding h i).holdback h.place.position)))
turn_leaves m c h (events.Checkpoint host clock) fails =
    if_up_leaves c h (on_checkpoint m c h host.0 clock.0 fails) (checkpoint_leaves m c h host.0 clock.0 fails)
turn_leaves m c h (events.SendUpdate host) fails = if_up_leaves c h (on_send_update m c h host.0) (λ r. absurd r)
turn_leaves m c h (events.Manage change) fails = changed_or_leaves c h change fails (first_fault (change_rows c.style (newest_view c) change))
turn_leaves m c h (events.Crash host) fails = λ r. absurd r
turn_leaves m c h (events.Restart host) fails = λ r. absurd r

after_left : (g : Group) (at : ℕ) (t : Turn) →
    ((known : ℕ) × Left t g.common (record (g.hosts at) { known = known }))
    ⊎ ((known : ℕ) × Left t (with_ran (length g.common.journal) g.common) (caught_up g.common (record (g.hosts at) { known = known }))) →
    OnlyKnowsOrCaughtUp g at (record { common = t.common; hosts = put g.hosts at t.host })
after_left g at t (inl x) = inl (x.0, ap (λ (p : Common × Host). record { common = p.0; hosts = put g.hosts at p.1 }) x.1)
after_left g at t (inr x) = inr (x.0, ap (λ (p : Common × Host). record { common = p.0; hosts = put g.hosts at p.1 }) x.1)

pub refusals_leave : (m : Machine) (g : Group) (e : Event) (fails : Bool) → IsRefused (turn_of m g e fails).answer → OnlyKnowsOrCaughtUp g (host_of e) (after_event m g e fails)
refusals_leave m g e fails refused =
    after_left g (host_of e) (turn m g.common (g.hosts (host_of e)) e fails) (turn_leaves m g.common (g.hosts (host_of e)) e fails refused)
