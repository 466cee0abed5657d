-- What a host knows never falls while it is up.
use Rattle.std.proofs.Common.{◌≡◌, refl, ℕ, ◌≤◌, Bool, true, false, List, [], ◌∷◌, length, Option, Some, None, Result, Ok, Err, sym, subst, max, if◌then◌else◌, ltb-true, eqb-true, arith}
use Rattle.std.specs.Prelude.{nat_lt, nat_eq, not}
use Rattle.ft_base.specs.Machine.{Machine}
use Rattle.ft_base.specs.declared.decisions.Decision.{Decision}
use Rattle.ft_base.specs.declared.decisions.Stop.{Stop}
use Rattle.ft_base.specs.declared.decisions.Stop.TheVariants.{Never, AfterAppend, AfterExecute}
use Rattle.ft_base.specs.declared.decisions.Ignored.TheVariants as causes
use Rattle.ft_base.specs.declared.limits.TheConstants.{ARGUMENTS_LIMIT}
use Rattle.ft_base.specs.declared.requests.Request.{Request}
use Rattle.ft_base.specs.declared.requests.Signature.{Signature}
use Rattle.ft_base.specs.declared.views.Style.{Style}
use Rattle.ft_base.specs.declared.views.View.{View}
use Rattle.cdr_codec.specs.declared.bodies.Raw.{Raw}
use Rattle.sys_faults.specs.Bodies.{OnUnknown}
use Rattle.sys_faults.specs.declared.answers.Answer.{Answer}
use Rattle.sys_faults.specs.declared.answers.Answer.TheVariants.{Done, System, Forward, ForwardPerm}
use Rattle.group_model.specs.Counting.{asks_journal}
use Rattle.group_model.specs.declared.asking.Asked.{Asked}
use Rattle.group_model.specs.declared.changes.Change.{Change}
use Rattle.group_model.specs.declared.changes.ManageFault.{ManageFault}
use Rattle.group_model.specs.declared.events.Event.{Event}
use Rattle.group_model.specs.declared.events.Event.TheVariants as events
use Rattle.group_model.specs.declared.events.GroupAnswer.TheVariants.{Known, Down}
use Rattle.group_model.specs.declared.refusals.Refusal.{Refusal}
use Rattle.group_model.specs.Plain.{Common, Host, Group, reach, with_ran, caught_up}
use Rattle.group_model.specs.Turns.{Turn, unchanged}
use Rattle.group_model.specs.Asking.{asked_version, args_read}
use Rattle.group_model.specs.Views.{version, newest, newest_view, view_at}
use Rattle.group_model.specs.Decisions.{refused_as, Row, first_row, view_rows, refused_by_view, unless_refused, request_named, request_with, args_for, args_within, known_then, looks_up, request_in}
use Rattle.ft_base.specs.Admissions.{admission}
use Rattle.ft_base.specs.declared.admissions.Admission.{Admission}
use Rattle.ft_base.specs.declared.admissions.Admission.TheVariants.{Expired, Same, Other, Full, New}
use Rattle.group_model.specs.Serving.{accepted, admitted, served_or, unless_bad, on_request}
use Rattle.group_model.specs.Transfers.{brought_to, ignoring, holding, ordered, taking, checkpoint_written, on_checkpoint, on_state, on_update, on_order, on_view}
use Rattle.group_model.specs.Changes.{changed, changed_or, next_view, first_fault, change_rows}
use Rattle.group_model.specs.Events.{if_up, turn, host_of, after_event, turn_of}
use Rattle.group_model.specs.Agreeing.{IsSound}
use Rattle.group_model.specs.Laws.{Forgets}
use Rattle.group_model.proofs.Choosing.{either_so}
use Rattle.group_model.proofs.Growing.{either}

-- ---- what holds of each refusal before the journal

abbrev SomeIs : (Refusal → Type 0) → Option Refusal → Type 0
SomeIs P None = Unit {0}
SomeIs P (Some refused) = P refused

abbrev pub ErrIs : {A : Type 0} → (Refusal → Type 0) → Result A Refusal → Type 0
ErrIs P (Ok a) = Unit {0}
ErrIs P (Err refused) = P refused

abbrev AllAre : (Refusal → Type 0) → List Row → Type 0
AllAre P [] = Unit {0}
AllAre P (r ∷ rows) = P r.refused × AllAre P rows

-- a named exception, or the reference of the version that is known then
abbrev pub IsToldAt : ℕ → Answer → Type 0
IsToldAt known (Done outcome) = ⊥
IsToldAt known (System fault) = OnUnknown fault.kind (λ id. ⊥)
IsToldAt known (Forward version) = version.0 ≡ known
IsToldAt known (ForwardPerm version) = version.0 ≡ known

-- it holds of all that leave this version known
abbrev pub OfKnown : (Refusal → Type 0) → ℕ → Type 0
OfKnown P known =
    (decision : Decision) (answer : Answer) → asks_journal decision ≡ false → IsToldAt known answer → P (refused_as decision answer known)

one_is : (P : Refusal → Type 0) (b : Bool) (x : Refusal) (o : Option Refusal) → P x → SomeIs P o → SomeIs P (if b then Some x else o)
one_is P true x o p rest = p
one_is P false x o p rest = rest

first_is : (P : Refusal → Type 0) (rows : List Row) → AllAre P rows → SomeIs P (first_row rows)
first_is P [] all = tt
first_is P (r ∷ rows) all = one_is P r.stands r.refused (first_row rows) all.0 (first_is P rows all.1)

rows_are : (P : Refusal → Type 0) (style : Style) (host asked known : ℕ) (view : View) (newest : ℕ) (last : View) → OfKnown P known → OfKnown P newest →
    AllAre P (view_rows style host asked known view newest last)
rows_are P style host asked known view newest last p q =
    (p _ _ refl tt, (p _ _ refl tt, (p _ _ refl refl, (p _ _ refl tt, (p _ _ refl refl, (q _ _ refl tt, (q _ _ refl refl, tt)))))))

unless_is : (P : Refusal → Type 0) (o : Option Refusal) (r : Result Request Refusal) → SomeIs P o → ErrIs P r → ErrIs P (unless_refused o r)
unless_is P None r x y = y
unless_is P (Some refused) r x y = x

if_long_is : (P : Refusal → Type 0) (b : Bool) (x : Refusal) (args : List ℕ) → P x → ErrIs {A = List ℕ} P (if b then Err x else Ok args)
if_long_is P true x args p = p
if_long_is P false x args p = tt

within_is : (P : Refusal → Type 0) (k : ℕ) (args : Result (List ℕ) ℕ) → OfKnown P k → ErrIs P (args_within k args)
within_is P k (Err place) p = p _ _ refl tt
within_is P k (Ok args) p = if_long_is P (nat_lt ARGUMENTS_LIMIT (length args)) _ args (p _ _ refl tt)

args_are : (P : Refusal → Type 0) (k : ℕ) (o : Option Signature) (body : Raw) → OfKnown P k → ErrIs P (args_for k o body)
args_are P k None body p = p _ _ refl tt
args_are P k (Some signature) body p = within_is P k (args_read body signature) p

with_is : (P : Refusal → Type 0) (asked : Asked) (op : List ℕ) (r : Result (List ℕ) Refusal) → ErrIs P r → ErrIs P (request_with asked op r)
with_is P asked op (Err refused) p = p
with_is P asked op (Ok args) p = tt

named_is : (P : Refusal → Type 0) (m : Machine) (k : ℕ) (asked : Asked) (op : Option (List ℕ)) → OfKnown P k → ErrIs P (request_named m k asked op)
named_is P m k asked None p = p _ _ refl tt
named_is P m k asked (Some op) p = with_is P asked op (args_for k (m.signature op) asked.body) (args_are P k (m.signature op) asked.body p)

pub request_is : (P : Refusal → Type 0) (m : Machine) (c : Common) (host known : ℕ) (asked : Asked) → OfKnown P known → OfKnown P (newest c) →
    ErrIs P (request_in m c host known asked)
request_is P m c host known asked p q =
    let version = asked_version known asked.version in
    unless_is P (refused_by_view c host version known) (request_named m known asked asked.op)
    (first_is P (view_rows c.style host version known (view_at c.views known) (newest c) (newest_view c))
    (rows_are P c.style host version known (view_at c.views known) (newest c) (newest_view c) p q))
    (named_is P m known asked asked.op p)

-- ---- a turn

abbrev KnowsOn : ℕ → Turn → Type 0
KnowsOn k t = (Forgets t.answer → ⊥) → k ≤ t.host.known

pub if_known : (b : Bool) (k newest : ℕ) → k ≤ newest → (k ≤ (if b then newest else k)) × ((if b then newest else k) ≤ newest)
if_known true k newest le = (le, omega arith)
if_known false k newest le = (omega arith, le)

accepted_knows : (m : Machine) (c : Common) (h : Host) (host now : ℕ) (q : Request) (stop : Stop) → KnowsOn h.known (accepted m c h host now q stop)
accepted_knows m c h host now q Never = λ f. omega arith
accepted_knows m c h host now q AfterAppend = λ f. absurd (f tt)
accepted_knows m c h host now q AfterExecute = λ f. absurd (f tt)

admitted_knows : (m : Machine) (c : Common) (h : Host) (host now : ℕ) (q : Request) (stop : Stop) (fails : Bool) (a : Admission) →
    KnowsOn h.known (admitted m c h host now q stop fails a)
admitted_knows m c h host now q stop fails (Expired e) = λ f. omega arith
admitted_knows m c h host now q stop fails (Same i) = λ f. omega arith
admitted_knows m c h host now q stop fails (Other i) = λ f. omega arith
admitted_knows m c h host now q stop fails Full = λ f. omega arith
admitted_knows m c h host now q stop true New = λ f. omega arith
admitted_knows m c h host now q stop false New = accepted_knows m c h host now q stop

served_or_knows : (m : Machine) (c : Common) (h : Host) (host clock : ℕ) (stop : Stop) (fails : Bool) (r : Result Request Refusal) → ErrIs (λ x. h.known ≤ x.known.0) r →
    KnowsOn h.known (served_or m c h host clock stop fails r)
served_or_knows m c h host clock stop fails (Err refused) le = λ f. le
served_or_knows m c h host clock stop fails (Ok q) le =
    let ran = with_ran (length c.journal) c in
    admitted_knows m ran (caught_up c h) host (max clock ran.time) q stop fails (admission ran.journal (max clock ran.time) q)

knows_more : (k known : ℕ) (t : Turn) → k ≤ known → KnowsOn known t → KnowsOn k t
knows_more k known t le on = λ f. let more = on f in omega (arith, le, more)

unless_bad_knows : (bad : Option ℕ) (c : Common) (h : Host) (t : Turn) → KnowsOn h.known t → KnowsOn h.known (unless_bad bad c h t)
unless_bad_knows None c h t on = on
unless_bad_knows (Some id) c h t on = λ f. omega arith

on_request_knows : (m : Machine) (c : Common) (h : Host) (host clock : ℕ) (asked : Asked) (stop : Stop) (fails : Bool) → h.known ≤ newest c →
    KnowsOn h.known (on_request m c h host clock asked stop fails)
on_request_knows m c h host clock asked stop fails le =
    let known = known_then (newest c) h.known asked.version in
    let h' = record h { known = known } in
    let both = if_known (looks_up h.known asked.version) h.known (newest c) le in
    unless_bad_knows asked.bad_context c h (served_or m c h' host clock stop fails (request_in m c host known asked))
    (knows_more h.known known (served_or m c h' host clock stop fails (request_in m c host known asked)) both.0
    (served_or_knows m c h' host clock stop fails (request_in m c host known asked) (request_is (λ x. known ≤ x.known.0) m c host known asked (λ d a e t. omega arith) (λ d a e t. both.1))))

written_knows : (m : Machine) (c : Common) (h : Host) (host clock : ℕ) (fails : Bool) → KnowsOn h.known (checkpoint_written m c h host clock fails)
written_knows m c h host clock true = λ f. omega arith
written_knows m c h host clock false = λ f. omega arith

checkpoint_knows : (m : Machine) (c : Common) (h : Host) (host clock : ℕ) (fails : Bool) → h.known ≤ newest c →
    KnowsOn h.known (on_checkpoint m c h host clock fails)
checkpoint_knows m c h host clock fails le =
    let ran = with_ran (length c.journal) c in
    knows_more h.known (newest c) (checkpoint_written m ran (taking c h) host clock fails) le (written_knows m ran (taking c h) host clock fails)

changed_knows : (c : Common) (h : Host) (old new : View) (fails : Bool) → KnowsOn h.known (changed c h old new fails)
changed_knows c h old new true = λ f. omega arith
changed_knows c h old new false = λ f. omega arith

changed_or_knows : (c : Common) (h : Host) (change : Change) (fails : Bool) (r : Option ManageFault) → KnowsOn h.known (changed_or c h change fails r)
changed_or_knows c h change fails (Some fault) = λ f. omega arith
changed_or_knows c h change fails None = changed_knows c h (newest_view c) (next_view c.style (newest_view c) change) fails

if_up_knows : (c : Common) (h : Host) (t : Turn) → KnowsOn h.known t → KnowsOn h.known (if_up c h t)
if_up_knows c h t on = either (KnowsOn h.known) h.up t (unchanged c h Down) on (λ f. omega arith)

one_of_three : (k : ℕ) (b d : Bool) (x y z : Turn) → KnowsOn k x → KnowsOn k y → KnowsOn k z → KnowsOn k (if b then x else (if d then y else z))
one_of_three k b d x y z p q r = either (KnowsOn k) b x (if d then y else z) p (either (KnowsOn k) d y z q r)

state_knows : (c : Common) (h : Host) (n : ℕ) → KnowsOn h.known (on_state c h n)
state_knows c h n =
    one_of_three h.known (not h.place.loaded) (nat_lt h.place.position n) (brought_to n c h) (brought_to n c h) (ignoring c h (causes.Position n h.place.position))
    (λ f. omega arith) (λ f. omega arith) (λ f. omega arith)

update_knows : (c : Common) (h : Host) (n to : ℕ) → KnowsOn h.known (on_update c h n to)
update_knows c h n to =
    one_of_three h.known (not h.place.loaded) (nat_eq h.place.position n) (ignoring c h causes.NotLoaded) (brought_to to c h) (ignoring c h (causes.From n h.place.position))
    (λ f. omega arith) (λ f. omega arith) (λ f. omega arith)

order_knows : (c : Common) (h : Host) (i : ℕ) → KnowsOn h.known (on_order c h i)
order_knows c h i =
    one_of_three h.known (not h.place.loaded) (nat_lt i h.place.position) (ignoring c h causes.NotLoaded) (ignoring c h (causes.Order i h.place.position))
    (ordered c (holding h i) (reach (holding h i).holdback h.place.position))
    (λ f. omega arith) (λ f. omega arith) (λ f. omega arith)

view_knows : (c : Common) (h : Host) (sent : ℕ) → KnowsOn h.known (on_view c h sent)
view_knows c h sent =
    either_so (KnowsOn h.known) (nat_lt h.known sent) (unchanged c (record h { known = sent }) (Known (version sent))) (ignoring c h (causes.Known (version sent) (version h.known)))
    (λ newer. λ f. omega (arith, ltb-true h.known sent newer)) (λ older. λ f. omega arith)

turn_knows : (m : Machine) (c : Common) (h : Host) (e : Event) (fails : Bool) → h.known ≤ newest c → KnowsOn h.known (turn m c h e fails)
turn_knows m c h (events.Request host clock asked stop) fails le = if_up_knows c h _ (on_request_knows m c h host.0 clock.0 asked stop fails le)
turn_knows m c h (events.View host sent) fails le = if_up_knows c h _ (view_knows c h sent.0)
turn_knows m c h (events.State host n state) fails le = if_up_knows c h _ (state_knows c h n)
turn_knows m c h (events.Update host from to update) fails le = if_up_knows c h _ (update_knows c h from to)
turn_knows m c h (events.Order host i request) fails le = if_up_knows c h _ (order_knows c h i)
turn_knows m c h (events.Checkpoint host clock) fails le = if_up_knows c h _ (checkpoint_knows m c h host.0 clock.0 fails le)
turn_knows m c h (events.SendUpdate host) fails le = if_up_knows c h _ (λ f. le)
turn_knows m c h (events.Manage change) fails le = changed_or_knows c h change fails (first_fault (change_rows c.style (newest_view c) change))
turn_knows m c h (events.Crash host) fails le = λ f. absurd (f tt)
turn_knows m c h (events.Restart host) fails le = λ f. omega arith

pub knowledge_never_falls : (m : Machine) (g : Group) (e : Event) (fails : Bool) (i : ℕ) → IsSound m g →
    (Forgets (turn_of m g e fails).answer → ⊥) → (g.hosts i).known ≤ ((after_event m g e fails).hosts i).known
knowledge_never_falls m g e fails i sound stays =
    let at = host_of e in
    let t = turn m g.common (g.hosts at) e fails in
    let on : (g.hosts at).known ≤ t.host.known = turn_knows m g.common (g.hosts at) e fails (sound.hosts at).known.0 stays in
    either_so (λ (h : Host). (g.hosts i).known ≤ h.known) (nat_eq i at) t.host (g.hosts i)
    (λ same. subst (λ (j : ℕ). (g.hosts j).known ≤ t.host.known) (sym (eqb-true i at same)) on) (λ other. omega arith)
