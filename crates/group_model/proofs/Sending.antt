-- What a turn sends agrees with the group after it.
use Rattle.std.proofs.Common.{◌≡◌, ℕ, ◌+◌, ◌<◌, ◌≤◌, ◌-◌, max, Bool, true, false, List, [], ◌∷◌, ◌++◌, length, length-append, Option, Some, None, Result, Ok, Err, refl, if◌then◌else◌, arith}
use Rattle.std.specs.Prelude.{nat_lt, nat_eq, not, slice_get}
use Rattle.std.specs.List.{AllByRecursion, filter}
use Rattle.ft_base.specs.Machine.{Machine}
use Rattle.ft_base.specs.Members.{is_member}
use Rattle.ft_base.specs.declared.decisions.Ignored.TheVariants as causes
use Rattle.ft_base.specs.declared.decisions.Stop.{Stop}
use Rattle.ft_base.specs.declared.decisions.Stop.TheVariants.{Never, AfterAppend, AfterExecute}
use Rattle.ft_base.specs.declared.limits.TheConstants.{HOST_LIMIT}
use Rattle.ft_base.specs.declared.numbers.HostNo.{HostNo}
use Rattle.ft_base.specs.declared.requests.Request.{Request}
use Rattle.ft_base.specs.declared.views.Style.{Style}
use Rattle.ft_base.specs.declared.views.Style.TheVariants.{Cold, Warm, Active}
use Rattle.group_model.specs.declared.asking.Asked.{Asked}
use Rattle.group_model.specs.declared.changes.Change.{Change}
use Rattle.group_model.specs.declared.changes.ManageFault.{ManageFault}
use Rattle.group_model.specs.declared.events.Event.{Event}
use Rattle.group_model.specs.declared.events.Event.TheVariants as events
use Rattle.group_model.specs.declared.events.GroupAnswer.{GroupAnswer}
use Rattle.group_model.specs.declared.events.GroupAnswer.TheVariants.{Applied, Held, Known, Down}
use Rattle.group_model.specs.declared.events.Inner.{Inner}
use Rattle.group_model.specs.declared.events.Inner.TheVariants as inners
use Rattle.group_model.specs.declared.events.Out.{Out}
use Rattle.group_model.specs.declared.refusals.Refusal.{Refusal}
use Rattle.group_model.specs.Plain.{Common, Host, Group, reach, with_ran, caught_up, put, state_at, delta_at}
use Rattle.group_model.specs.Turns.{Turn, unchanged}
use Rattle.ft_base.specs.Views.{is_passive}
use Rattle.group_model.specs.Views.{AreKept, version, host_no, newest, newest_view, is_warm, without, sent_to, to_others}
use Rattle.group_model.specs.Decisions.{known_then, request_in}
use Rattle.ft_base.specs.Admissions.{admission}
use Rattle.ft_base.specs.declared.admissions.Admission.{Admission}
use Rattle.ft_base.specs.declared.admissions.Admission.TheVariants.{Expired, Same, Other, Full, New}
use Rattle.group_model.specs.Serving.{joined, accepted, admitted, served_or, unless_bad, on_request}
use Rattle.group_model.specs.Transfers.{brought_to, ignoring, holding, ordered, taking, marked, checkpoint_written, on_checkpoint, update_taken, on_send_update, on_state, on_update, on_order, on_view}
use Rattle.group_model.specs.Changes.{changed, changed_or, with_view, next_view, first_fault, change_rows, host_of_change, NamesHosts}
use Rattle.group_model.specs.Events.{if_up, turn, turn_of, host_of, after_event}
use Rattle.group_model.specs.Agreeing.{Agrees, AreViews, IsBrought, IsSound, IsSoundCommon, IsSoundHost}
use Rattle.group_model.specs.Sending.{brought, brought_to_host, sent_by}
use Rattle.group_model.proofs.Choosing.{either_so}
use Rattle.group_model.proofs.Growing.{either}
use Rattle.group_model.proofs.Placing.{start_inside}
use Rattle.group_model.proofs.Viewing.{all_without, newest_there, views_go_on}

-- ---- lists

all_append : {A : Type 0} (P : A → Type 0) (xs ys : List A) → AllByRecursion P xs → AllByRecursion P ys → AllByRecursion P (xs ++ ys)
all_append P [] ys all more = more
all_append P (x ∷ xs) ys all more = (all.0, all_append P xs ys all.1 more)

all_filter : (P : ℕ → Type 0) (test : ℕ → Bool) (xs : List ℕ) → AllByRecursion P xs → AllByRecursion P (filter test xs)
all_filter P test [] all = tt
all_filter P test (x ∷ xs) all =
    either_so (AllByRecursion P) (test x) (x ∷ filter test xs) (filter test xs) (λ stays. (all.0, all_filter P test xs all.1)) (λ goes. all_filter P test xs all.1)

pub got_pushed : {A : Type 0} (xs : List A) (x : A) → slice_get (xs ++ x ∷ []) (length xs) ≡ Some x
got_pushed [] x = refl
got_pushed (y ∷ xs) x = got_pushed xs x

-- ---- what is sent to some hosts

-- hosts that there can be
abbrev AreHosts : List ℕ → Type 0
AreHosts hosts = AllByRecursion (λ host. host < HOST_LIMIT) hosts

host_brought : (to : HostNo) (carried : Inner) → to.0 < HOST_LIMIT → host_of (brought_to_host to carried) < HOST_LIMIT
host_brought to (inners.View sent) lt = lt
host_brought to (inners.State n state) lt = lt
host_brought to (inners.Update from until update) lt = lt
host_brought to (inners.Order i request) lt = lt

abbrev AllAgree : Machine → Group → List Out → Type 0
AllAgree m g out = AllByRecursion (λ o. Agrees m (brought o) g) out

-- the same may come to each
abbrev MayBeSent : Machine → Group → Inner → Type 0
MayBeSent m g carried = (to : HostNo) → IsBrought m g (brought_to_host to carried)

all_sent : (m : Machine) (g : Group) (carried : Inner) (hosts : List ℕ) → AreHosts hosts → MayBeSent m g carried → AllAgree m g (sent_to hosts carried)
all_sent m g carried [] all may = tt
all_sent m g carried (host ∷ hosts) all may =
    (record { host = host_brought (host_no host) carried all.0; brought = may (host_no host) }, all_sent m g carried hosts all.1 may)

newest_hosts : (c : Common) → AreViews c.style c.views → AreHosts (newest_view c).members
newest_hosts c views = (views.each (length c.views - 1) (newest_view c) (newest_there c.views views.some)).hosts

others_sent : (m : Machine) (g : Group) (c : Common) (host : ℕ) (carried : Inner) → AreViews c.style c.views → MayBeSent m g carried →
    AllAgree m g (to_others c host carried)
others_sent m g c host carried views may =
    all_sent m g carried (without host (newest_view c).members) (all_without (λ n. n < HOST_LIMIT) host (newest_view c).members (newest_hosts c views)) may

-- ---- a turn

-- what a turn sends agrees with what the hosts share after it
abbrev Sends : Machine → (ℕ → Host) → Turn → Type 0
Sends m hosts t = AllAgree m (record { common = t.common; hosts = hosts }) (sent_by t.answer)

active_style : (style : Style) → is_passive style ≡ false → style ≡ Active
active_style Cold e = absurd cc
active_style Warm e = absurd cc
active_style Active e = refl

warm_style : (style : Style) → is_warm style ≡ true → style ≡ Warm
warm_style Cold e = absurd cc
warm_style Warm e = refl
warm_style Active e = absurd cc

accepted_sends : (m : Machine) (hosts : ℕ → Host) (c : Common) (h : Host) (host now : ℕ) (q : Request) (stop : Stop) → AreViews c.style c.views →
    Sends m hosts (accepted m c h host now q stop)
accepted_sends m hosts c h host now q Never views =
    let i = length c.journal in
    let g : Group = record { common = with_ran (i + 1) (joined c now q); hosts = hosts } in
    either_so (AllAgree m g) (is_passive c.style) [] (to_others c host (inners.Order i q)) (λ passive. tt)
    (λ active. others_sent m g c host (inners.Order i q) views
    (λ to. (
      active_style c.style active,
      record { ran = omega arith; entry = record { at = now; request = q }; there = got_pushed c.journal (record { at = now; request = q }); same = refl },
    )))
accepted_sends m hosts c h host now q AfterAppend views = tt
accepted_sends m hosts c h host now q AfterExecute views = tt

admitted_sends : (m : Machine) (hosts : ℕ → Host) (c : Common) (h : Host) (host now : ℕ) (q : Request) (stop : Stop) (fails : Bool) (a : Admission) → AreViews c.style c.views →
    Sends m hosts (admitted m c h host now q stop fails a)
admitted_sends m hosts c h host now q stop fails (Expired e) views = tt
admitted_sends m hosts c h host now q stop fails (Same i) views = tt
admitted_sends m hosts c h host now q stop fails (Other i) views = tt
admitted_sends m hosts c h host now q stop fails Full views = tt
admitted_sends m hosts c h host now q stop true New views = tt
admitted_sends m hosts c h host now q stop false New views = accepted_sends m hosts c h host now q stop views

served_or_sends : (m : Machine) (hosts : ℕ → Host) (c : Common) (h : Host) (host clock : ℕ) (stop : Stop) (fails : Bool) (r : Result Request Refusal) → AreViews c.style c.views →
    Sends m hosts (served_or m c h host clock stop fails r)
served_or_sends m hosts c h host clock stop fails (Err refused) views = tt
served_or_sends m hosts c h host clock stop fails (Ok q) views =
    let now = max clock c.time in
    admitted_sends m hosts (with_ran (length c.journal) c) (caught_up c h) host now q stop fails (admission c.journal now q) views

unless_bad_sends : (m : Machine) (hosts : ℕ → Host) (bad : Option ℕ) (c : Common) (h : Host) (t : Turn) → Sends m hosts t → Sends m hosts (unless_bad bad c h t)
unless_bad_sends m hosts None c h t sends = sends
unless_bad_sends m hosts (Some id) c h t sends = tt

request_sends : (m : Machine) (hosts : ℕ → Host) (c : Common) (h : Host) (host clock : ℕ) (asked : Asked) (stop : Stop) (fails : Bool) → AreViews c.style c.views →
    Sends m hosts (on_request m c h host clock asked stop fails)
request_sends m hosts c h host clock asked stop fails views =
    let known = known_then (newest c) h.known asked.version in
    let h' : Host = record h { known = known } in
    unless_bad_sends m hosts asked.bad_context c h (served_or m c h' host clock stop fails (request_in m c host known asked))
    (served_or_sends m hosts c h' host clock stop fails (request_in m c host known asked) views)

written_sends : (m : Machine) (hosts : ℕ → Host) (c : Common) (h : Host) (host clock : ℕ) (fails : Bool) → AreViews c.style c.views → h.place.position ≤ c.ran →
    Sends m hosts (checkpoint_written m c h host clock fails)
written_sends m hosts c h host clock true views le = tt
written_sends m hosts c h host clock false views le =
    let n = h.place.position in
    let g : Group = record { common = marked c clock; hosts = hosts } in
    either_so (AllAgree m g) (is_warm c.style) (to_others c host (inners.State n (state_at m c n))) []
    (λ warm. others_sent m g c host (inners.State n (state_at m c n)) views (λ to. (warm_style c.style warm, le, refl))) (λ other. tt)

checkpoint_sends : (m : Machine) (hosts : ℕ → Host) (c : Common) (h : Host) (host clock : ℕ) (fails : Bool) → IsSoundCommon m c → IsSoundHost c h →
    Sends m hosts (on_checkpoint m c h host clock fails)
checkpoint_sends m hosts c h host clock fails s x =
    written_sends m hosts (with_ran (length c.journal) c) (taking c h) host clock fails s.views (omega arith)

taken_sends : (m : Machine) (hosts : ℕ → Host) (c : Common) (h : Host) (host : ℕ) → c.style ≡ Warm → AreViews c.style c.views → h.place.base ≤ h.place.position → h.place.position ≤ c.ran →
    Sends m hosts (update_taken m c h host)
taken_sends m hosts c h host warm views base_first few =
    let base = h.place.base in
    let n = h.place.position in
    others_sent m (record { common = c; hosts = hosts }) c host (inners.Update base n (delta_at m c base n)) views (λ to. (warm, base_first, few, refl))

-- ---- changes

changed_sends : (m : Machine) (hosts : ℕ → Host) (c : Common) (h : Host) (change : Change) (fails : Bool) → NamesHosts change →
    first_fault (change_rows c.style (newest_view c) change) ≡ None → AreViews c.style c.views → AreKept c.first_kept c.views →
    Sends m hosts (changed c h (newest_view c) (next_view c.style (newest_view c) change) fails)
changed_sends m hosts c h change true lt none views kept = tt
changed_sends m hosts c h change false lt none views kept =
    let old = newest_view c in
    let new = next_view c.style old change in
    let told : Inner = inners.View new.version in
    let g : Group = record { common = with_view c new; hosts = hosts } in
    let at = (views_go_on c change lt none views).each (length c.views) new (got_pushed c.views new) in
    let may : MayBeSent m g told = λ to. (omega (arith, at.numbered, kept.last), omega (arith, at.numbered, length-append c.views (new ∷ []))) in
    let joining = filter (λ n. not (is_member n old.members)) new.members in
    all_append (λ (o : Out). Agrees m (brought o) g) (sent_to old.members told) (sent_to joining told)
    (all_sent m g told old.members (newest_hosts c views) may)
    (all_sent m g told joining (all_filter (λ n. n < HOST_LIMIT) (λ n. not (is_member n old.members)) new.members at.hosts) may)

changed_or_sends : (m : Machine) (hosts : ℕ → Host) (c : Common) (h : Host) (change : Change) (fails : Bool) (r : Option ManageFault) → NamesHosts change →
    first_fault (change_rows c.style (newest_view c) change) ≡ r → AreViews c.style c.views → AreKept c.first_kept c.views →
    Sends m hosts (changed_or c h change fails r)
changed_or_sends m hosts c h change fails (Some fault) lt is views kept = tt
changed_or_sends m hosts c h change fails None lt is views kept = changed_sends m hosts c h change fails lt is views kept

-- ---- what sends nothing

one_of_three : (m : Machine) (hosts : ℕ → Host) (b d : Bool) (x y z : Turn) → Sends m hosts x → Sends m hosts y → Sends m hosts z →
    Sends m hosts (if b then x else (if d then y else z))
one_of_three m hosts b d x y z p q r = either (Sends m hosts) b x (if d then y else z) p (either (Sends m hosts) d y z q r)

state_sends : (m : Machine) (hosts : ℕ → Host) (c : Common) (h : Host) (n : ℕ) → Sends m hosts (on_state c h n)
state_sends m hosts c h n =
    one_of_three m hosts (not h.place.loaded) (nat_lt h.place.position n) (brought_to n c h) (brought_to n c h) (ignoring c h (causes.Position n h.place.position)) tt tt tt

update_sends : (m : Machine) (hosts : ℕ → Host) (c : Common) (h : Host) (n to : ℕ) → Sends m hosts (on_update c h n to)
update_sends m hosts c h n to =
    one_of_three m hosts (not h.place.loaded) (nat_eq h.place.position n) (ignoring c h causes.NotLoaded) (brought_to to c h) (ignoring c h (causes.From n h.place.position)) tt tt tt

ordered_sends : (m : Machine) (hosts : ℕ → Host) (c : Common) (h : Host) (n : ℕ) → Sends m hosts (ordered c h n)
ordered_sends m hosts c h n =
    either_so (λ (a : GroupAnswer). AllAgree m (record { common = c; hosts = hosts }) (sent_by a)) (nat_lt h.place.position n) (Applied n) (Held h.place.position)
    (λ on. tt) (λ held. tt)

order_sends : (m : Machine) (hosts : ℕ → Host) (c : Common) (h : Host) (i : ℕ) → Sends m hosts (on_order c h i)
order_sends m hosts c h i =
    let n = reach (holding h i).holdback h.place.position in
    one_of_three m hosts (not h.place.loaded) (nat_lt i h.place.position) (ignoring c h causes.NotLoaded) (ignoring c h (causes.Order i h.place.position)) (ordered c (holding h i) n)
    tt tt (ordered_sends m hosts c (holding h i) n)

view_sends : (m : Machine) (hosts : ℕ → Host) (c : Common) (h : Host) (sent : ℕ) → Sends m hosts (on_view c h sent)
view_sends m hosts c h sent =
    either (Sends m hosts) (nat_lt h.known sent) (unchanged c (record h { known = sent }) (Known (version sent))) (ignoring c h (causes.Known (version sent) (version h.known))) tt tt

-- ---- events

if_up_sends : (m : Machine) (hosts : ℕ → Host) (c : Common) (h : Host) (t : Turn) → Sends m hosts t → Sends m hosts (if_up c h t)
if_up_sends m hosts c h t sends = either (Sends m hosts) h.up t (unchanged c h Down) sends tt

turn_sends : (m : Machine) (hosts : ℕ → Host) (g : Group) (e : Event) (fails : Bool) → IsSound m g → Agrees m e g →
    Sends m hosts (turn m g.common (g.hosts (host_of e)) e fails)
turn_sends m hosts g (events.Request host clock asked stop) fails s a =
    if_up_sends m hosts g.common (g.hosts host.0) (on_request m g.common (g.hosts host.0) host.0 clock.0 asked stop fails)
    (request_sends m hosts g.common (g.hosts host.0) host.0 clock.0 asked stop fails s.common.views)
turn_sends m hosts g (events.View host sent) fails s a =
    if_up_sends m hosts g.common (g.hosts host.0) (on_view g.common (g.hosts host.0) sent.0) (view_sends m hosts g.common (g.hosts host.0) sent.0)
turn_sends m hosts g (events.State host n state) fails s a =
    if_up_sends m hosts g.common (g.hosts host.0) (on_state g.common (g.hosts host.0) n) (state_sends m hosts g.common (g.hosts host.0) n)
turn_sends m hosts g (events.Update host from to update) fails s a =
    if_up_sends m hosts g.common (g.hosts host.0) (on_update g.common (g.hosts host.0) from to) (update_sends m hosts g.common (g.hosts host.0) from to)
turn_sends m hosts g (events.Order host i request) fails s a =
    if_up_sends m hosts g.common (g.hosts host.0) (on_order g.common (g.hosts host.0) i) (order_sends m hosts g.common (g.hosts host.0) i)
turn_sends m hosts g (events.Checkpoint host clock) fails s a =
    if_up_sends m hosts g.common (g.hosts host.0) (on_checkpoint m g.common (g.hosts host.0) host.0 clock.0 fails)
    (checkpoint_sends m hosts g.common (g.hosts host.0) host.0 clock.0 fails s.common (s.hosts host.0))
turn_sends m hosts g (events.SendUpdate host) fails s a =
    let c = g.common in
    if_up_sends m hosts c (g.hosts host.0) (on_send_update m c (g.hosts host.0) host.0)
    (taken_sends m hosts (with_ran (length c.journal) c) (taking c (g.hosts host.0)) host.0 a.brought.0 s.common.views
    (start_inside c (g.hosts host.0) s.common.numbers (s.hosts host.0)) (omega arith))
turn_sends m hosts g (events.Manage change) fails s a =
    changed_or_sends m hosts g.common (g.hosts (host_of_change change).0) change fails (first_fault (change_rows g.common.style (newest_view g.common) change)) (a.host, a.brought) refl
    s.common.views s.common.kept
turn_sends m hosts g (events.Crash host) fails s a = tt
turn_sends m hosts g (events.Restart host) fails s a = tt

pub sent_agrees : (m : Machine) (g : Group) (e : Event) (fails : Bool) → IsSound m g → Agrees m e g →
    AllByRecursion (λ out. Agrees m (brought out) (after_event m g e fails)) (sent_by (turn_of m g e fails).answer)
sent_agrees m g e fails s a = turn_sends m (put g.hosts (host_of e) (turn_of m g e fails).host) g e fails s a
