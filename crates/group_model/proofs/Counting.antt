-- Servant calls are counted.
use Rattle.std.proofs.Common.{◌≡◌, ℕ, ◌+◌, ◌-◌, ◌<◌, ◌≤◌, max, Bool, true, false, List, [], ◌∷◌, length, Option, Some, None, Result, Ok, Err, refl, sym, ap, if◌then◌else◌, lt-ltb, arith}
use Rattle.std.specs.Prelude.{nat_lt, nat_eq, not}
use Rattle.std.proofs.lemmas.Bool.{le-ltb}
use Rattle.ft_base.specs.Machine.{Machine}
use Rattle.ft_base.specs.declared.decisions.Decision.{Decision}
use Rattle.ft_base.specs.declared.decisions.Decision.TheVariants as decisions
use Rattle.ft_base.specs.declared.decisions.Ignored.TheVariants as causes
use Rattle.ft_base.specs.declared.decisions.Stop.{Stop}
use Rattle.ft_base.specs.declared.decisions.Stop.TheVariants.{Never, AfterAppend, AfterExecute}
use Rattle.ft_base.specs.declared.numbers.HostNo.{HostNo}
use Rattle.ft_base.specs.declared.requests.Request.{Request}
use Rattle.ft_base.specs.declared.views.View.{View}
use Rattle.group_model.specs.declared.asking.Asked.{Asked}
use Rattle.group_model.specs.declared.changes.Change.{Change}
use Rattle.group_model.specs.declared.changes.ManageFault.{ManageFault}
use Rattle.group_model.specs.declared.events.Event.{Event}
use Rattle.group_model.specs.declared.events.Event.TheVariants as events
use Rattle.group_model.specs.declared.events.GroupAnswer.{GroupAnswer}
use Rattle.group_model.specs.declared.events.GroupAnswer.TheVariants.{Known, Down, Applied, Held}
use Rattle.group_model.specs.declared.refusals.Refusal.{Refusal}
use Rattle.group_model.specs.Plain.{Common, Host, Group, Place, reach, with_ran, caught_up}
use Rattle.group_model.specs.Turns.{Turn, unchanged}
use Rattle.group_model.specs.Views.{version, newest, newest_view}
use Rattle.group_model.specs.Decisions.{known_then, request_in}
use Rattle.ft_base.specs.Admissions.{admission}
use Rattle.ft_base.specs.declared.admissions.Admission.{Admission}
use Rattle.ft_base.specs.declared.admissions.Admission.TheVariants.{Expired, Same, Other, Full, New}
use Rattle.group_model.specs.Serving.{accepted, admitted, served_or, unless_bad, on_request, calls_behind}
use Rattle.group_model.specs.Transfers.{brought_to, ignoring, holding, ordered, taking, checkpoint_written, on_checkpoint, on_state, on_update, on_order, on_view, on_send_update}
use Rattle.group_model.specs.Changes.{changed, changed_or, next_view, first_fault, change_rows}
use Rattle.group_model.specs.Events.{if_up, turn, host_of}
use Rattle.group_model.specs.Runs.{Step, after_step, calls_of}
use Rattle.group_model.specs.Counting.{asks_journal, entry_run, entries_run, entries_caught_up, orders_applied, total, run_in, caught_up_in, applied_in}
use Rattle.group_model.proofs.Choosing.{either_so}
use Rattle.group_model.proofs.Growing.{either}
use Rattle.group_model.proofs.Knowing.{ErrIs, request_is}
use Rattle.group_model.proofs.Turning.{turn_within}

-- ---- a turn of a host that asks the journal

-- behind so many calls of catching up
record Asks (c : Common) (h : Host) (t : Turn) : Type 0 where
  pub calls : t.calls ≡ entries_run t.common.ran t.answer
  pub behind : entries_caught_up c h t.answer ≡ calls_behind c h

abbrev one_if : Bool → ℕ
one_if b = if b then 1 else 0

is_run : (n ran : ℕ) → n < ran → ◌≡◌ {A = ℕ} 1 (if nat_lt n ran then 1 else 0)
is_run n ran lt = sym (ap one_if (lt-ltb n ran lt))

not_run : (n ran : ℕ) → ran ≤ n → ◌≡◌ {A = ℕ} 0 (if nat_lt n ran then 1 else 0)
not_run n ran le = sym (ap one_if (le-ltb n ran le))

accepted_asks : (m : Machine) (b : Common) (k : Host) (c : Common) (h : Host) (host now : ℕ) (q : Request) (stop : Stop) → c.ran ≤ length c.journal →
    Asks b k (accepted m c h host now q stop)
accepted_asks m b k c h host now q Never le = record { calls = is_run (length c.journal) (max c.ran (length c.journal + 1)) (omega arith); behind = refl }
accepted_asks m b k c h host now q AfterAppend le = record { calls = not_run (length c.journal) c.ran le; behind = refl }
accepted_asks m b k c h host now q AfterExecute le = record { calls = is_run (length c.journal) (max c.ran (length c.journal + 1)) (omega arith); behind = refl }

admitted_asks : (m : Machine) (b : Common) (k : Host) (c : Common) (h : Host) (host now : ℕ) (q : Request) (stop : Stop) (fails : Bool) (a : Admission) →
    c.ran ≤ length c.journal → Asks b k (admitted m c h host now q stop fails a)
admitted_asks m b k c h host now q stop fails (Expired e) le = record { calls = refl; behind = refl }
admitted_asks m b k c h host now q stop fails (Same i) le = record { calls = refl; behind = refl }
admitted_asks m b k c h host now q stop fails (Other i) le = record { calls = refl; behind = refl }
admitted_asks m b k c h host now q stop fails Full le = record { calls = refl; behind = refl }
admitted_asks m b k c h host now q stop true New le = record { calls = refl; behind = refl }
admitted_asks m b k c h host now q stop false New le = accepted_asks m b k c h host now q stop le

-- ---- a turn

-- of the host as it was before
abbrev Counted : Common → Host → Event → Turn → Type 0
Counted c h e t = t.calls ≡ entries_run t.common.ran t.answer + entries_caught_up c h t.answer + orders_applied e h t.host

early_runs : (d : Decision) (ran : ℕ) → asks_journal d ≡ false → entry_run ran d ≡ 0
early_runs (decisions.Append i) ran e = absurd cc
early_runs other ran e = refl

abbrev behind_if : ℕ → Bool → ℕ
behind_if n b = if b then n else 0

early : (c : Common) (h : Host) (d : Decision) (ran : ℕ) → asks_journal d ≡ false → ◌≡◌ {A = ℕ} 0 (entry_run ran d + (if asks_journal d then calls_behind c h else 0) + 0)
early c h d ran e =
    omega (arith, early_runs d ran e, ap (behind_if (calls_behind c h)) e)

served_or_counted : (m : Machine) (c : Common) (k h : Host) (host clock : ℕ) (asked : Asked) (stop : Stop) (fails : Bool) (r : Result Request Refusal) → h.place ≡ k.place →
    c.ran ≤ length c.journal → ErrIs (λ x. asks_journal x.decision ≡ false) r →
    let t = served_or m c h host clock stop fails r in t.calls ≡ entries_run t.common.ran t.answer + entries_caught_up c k t.answer + 0
served_or_counted m c k h host clock asked stop fails (Err refused) same le is = early c k refused.decision c.ran is
served_or_counted m c k h host clock asked stop fails (Ok q) same le is =
    let ran = with_ran (length c.journal) c in
    let now = max clock c.time in
    let asks = admitted_asks m c k ran (caught_up c h) host now q stop fails (admission c.journal now q) (omega (arith, le)) in
    let behind : calls_behind c h ≡ calls_behind c k = ap (λ (p : Place). calls_behind c (record k { place = p })) same in
    omega (arith, asks.calls, asks.behind, behind)

abbrev CountedAt : Common → Host → Turn → Type 0
CountedAt c k t = t.calls ≡ entries_run t.common.ran t.answer + entries_caught_up c k t.answer + 0

unless_bad_counted : (bad : Option ℕ) (c : Common) (h : Host) (t : Turn) → CountedAt c h t → CountedAt c h (unless_bad bad c h t)
unless_bad_counted None c h t counted = counted
unless_bad_counted (Some id) c h t counted = refl

request_counted : (m : Machine) (c : Common) (h : Host) (host clock : ℕ) (asked : Asked) (stop : Stop) (fails : Bool) → c.ran ≤ length c.journal →
    CountedAt c h (on_request m c h host clock asked stop fails)
request_counted m c h host clock asked stop fails le =
    let known = known_then (newest c) h.known asked.version in
    let h' : Host = record h { known = known } in
    unless_bad_counted asked.bad_context c h (served_or m c h' host clock stop fails (request_in m c host known asked))
    (served_or_counted m c h h' host clock asked stop fails (request_in m c host known asked) refl le
    (request_is (λ x. asks_journal x.decision ≡ false) m c host known asked (λ d a e t. e) (λ d a e t. e)))

written_counted : (m : Machine) (c : Common) (h : Host) (b : Common) (k : Host) (e : Event) (host clock : ℕ) (fails : Bool) →
    let t = checkpoint_written m c h host clock fails in (t.calls ≡ 0) × (entries_run t.common.ran t.answer ≡ 0) × (entries_caught_up b k t.answer ≡ calls_behind b k)
written_counted m c h b k e host clock true = (refl, refl, refl)
written_counted m c h b k e host clock false = (refl, refl, refl)

checkpoint_counted : (m : Machine) (c : Common) (h : Host) (e : Event) (host clock : ℕ) (fails : Bool) → CountedAt c h (on_checkpoint m c h host clock fails)
checkpoint_counted m c h e host clock fails =
    let all = written_counted m (with_ran (length c.journal) c) (taking c h) c h e host clock fails in
    omega (arith, all.0, all.1, all.2)

same_applied : (e : Event) (h : Host) → orders_applied e h h ≡ 0
same_applied (events.Order host i request) h = omega arith
same_applied other h = refl

down_counted : (c : Common) (h : Host) (e : Event) → Counted c h e (unchanged c h Down)
down_counted c h e = omega (arith, same_applied e h)

if_up_counted : (c : Common) (h : Host) (e : Event) (t : Turn) → Counted c h e t → Counted c h e (if_up c h t)
if_up_counted c h e t counted = either (Counted c h e) h.up t (unchanged c h Down) counted (down_counted c h e)

one_of_three : (P : Turn → Type 0) (b d : Bool) (x y z : Turn) → P x → P y → P z → P (if b then x else (if d then y else z))
one_of_three P b d x y z p q r = either P b x (if d then y else z) p (either P d y z q r)

ordered_counted : (c : Common) (h : Host) (n : ℕ) (a : GroupAnswer) → entries_run c.ran a ≡ 0 → entries_caught_up c h a ≡ 0 →
    n - h.place.position ≡ entries_run c.ran a + entries_caught_up c h a + (n - h.place.position)
ordered_counted c h n a e f = omega (arith, e, f)

order_counted : (c : Common) (h : Host) (host : HostNo) (i : ℕ) (q : Request) → Counted c h (events.Order host i q) (on_order c h i)
order_counted c h host i q =
    let n = reach (holding h i).holdback h.place.position in
    let p = h.place.position in
    one_of_three (Counted c h (events.Order host i q)) (not h.place.loaded) (nat_lt i p) (ignoring c h causes.NotLoaded) (ignoring c h (causes.Order i p)) (ordered c (holding h i) n)
    (omega arith) (omega arith)
    (either_so (λ (a : GroupAnswer). n - p ≡ entries_run c.ran a + entries_caught_up c h a + (n - p)) (nat_lt p n) (Applied n) (Held p)
    (λ on. ordered_counted c h n (Applied n) refl refl) (λ held. ordered_counted c h n (Held p) refl refl))

changed_counted : (c : Common) (h : Host) (old new : View) (fails : Bool) → CountedAt c h (changed c h old new fails)
changed_counted c h old new true = refl
changed_counted c h old new false = refl

changed_or_counted : (c : Common) (h : Host) (change : Change) (fails : Bool) (r : Option ManageFault) → CountedAt c h (changed_or c h change fails r)
changed_or_counted c h change fails (Some fault) = refl
changed_or_counted c h change fails None = changed_counted c h (newest_view c) (next_view c.style (newest_view c) change) fails

turn_counted : (m : Machine) (c : Common) (h : Host) (e : Event) (fails : Bool) → c.ran ≤ length c.journal → Counted c h e (turn m c h e fails)
turn_counted m c h (events.Request host clock asked stop) fails le =
    if_up_counted c h (events.Request host clock asked stop) (on_request m c h host.0 clock.0 asked stop fails) (request_counted m c h host.0 clock.0 asked stop fails le)
turn_counted m c h (events.View host sent) fails le =
    if_up_counted c h (events.View host sent) (on_view c h sent.0)
    (either (CountedAt c h) (nat_lt h.known sent.0) (unchanged c (record h { known = sent.0 }) (Known (version sent.0))) (ignoring c h (causes.Known (version sent.0) (version h.known))) refl refl)
turn_counted m c h (events.State host n state) fails le =
    if_up_counted c h (events.State host n state) (on_state c h n)
    (one_of_three (CountedAt c h) (not h.place.loaded) (nat_lt h.place.position n) (brought_to n c h) (brought_to n c h) (ignoring c h (causes.Position n h.place.position)) refl refl refl)
turn_counted m c h (events.Update host from to update) fails le =
    if_up_counted c h (events.Update host from to update) (on_update c h from to)
    (one_of_three (CountedAt c h) (not h.place.loaded) (nat_eq h.place.position from) (ignoring c h causes.NotLoaded) (brought_to to c h) (ignoring c h (causes.From from h.place.position)) refl refl refl)
turn_counted m c h (events.Order host i request) fails le = if_up_counted c h (events.Order host i request) (on_order c h i) (order_counted c h host i request)
turn_counted m c h (events.Checkpoint host clock) fails le =
    if_up_counted c h (events.Checkpoint host clock) (on_checkpoint m c h host.0 clock.0 fails) (checkpoint_counted m c h (events.Checkpoint host clock) host.0 clock.0 fails)
turn_counted m c h (events.SendUpdate host) fails le = if_up_counted c h (events.SendUpdate host) (on_send_update m c h host.0) (omega arith)
turn_counted m c h (events.Manage change) fails le = changed_or_counted c h change fails (first_fault (change_rows c.style (newest_view c) change))
turn_counted m c h (events.Crash host) fails le = refl
turn_counted m c h (events.Restart host) fails le = refl

pub calls_counted : (m : Machine) (g : Group) (steps : List Step) → g.common.ran ≤ length g.common.journal →
    calls_of m g steps ≡ total (run_in m) m g steps + total (caught_up_in m) m g steps + total (applied_in m) m g steps
unfolding calls_of total
calls_counted m g [] ran = refl
calls_counted m g (s ∷ steps) ran =
    let one = turn_counted m g.common (g.hosts (host_of s.event)) s.event s.fails ran in
    let more = calls_counted m (after_step m g s) steps (turn_within m g.common (g.hosts (host_of s.event)) s.event s.fails ran) in
    omega (arith, one, more)
