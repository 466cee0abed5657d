-- Who appends, and what a turn has to do with the log's write.
use Rattle.std.proofs.Common.{◌≡◌, ℕ, ◌≤◌, max, Bool, true, false, List, [], ◌∷◌, length, Option, Some, None, Result, Ok, Err, refl, sym, subst, ap, ◌∙◌, if◌then◌else◌, arith}
use Rattle.std.specs.Prelude.{nat_lt, nat_eq, not, ◌&&◌}
use Rattle.std.proofs.lemmas.Bool.Decides.{nat_tests}
use Rattle.ft_base.specs.Machine.{Machine}
use Rattle.ft_base.specs.Members.{is_member}
use Rattle.ft_base.specs.Views.{is_led_by, is_passive}
use Rattle.ft_base.specs.Admissions.{admission}
use Rattle.ft_base.specs.declared.admissions.Admission.{Admission}
use Rattle.ft_base.specs.declared.admissions.Admission.TheVariants.{Expired, Same, Other, Full, New}
use Rattle.ft_base.specs.declared.decisions.Decision.{Decision}
use Rattle.ft_base.specs.declared.decisions.Decision.TheVariants as decisions
use Rattle.ft_base.specs.declared.decisions.Ignored.TheVariants as causes
use Rattle.ft_base.specs.declared.decisions.Stop.{Stop}
use Rattle.ft_base.specs.declared.decisions.Stop.TheVariants.{Never, AfterAppend, AfterExecute}
use Rattle.ft_base.specs.declared.numbers.HostNo.{HostNo}
use Rattle.ft_base.specs.declared.numbers.Tick.{Tick}
use Rattle.ft_base.specs.declared.requests.Request.{Request}
use Rattle.sys_faults.specs.declared.answers.Answer.{Answer}
use Rattle.group_model.specs.declared.asking.Asked.{Asked}
use Rattle.group_model.specs.declared.changes.Change.{Change}
use Rattle.group_model.specs.declared.changes.ManageFault.{ManageFault}
use Rattle.group_model.specs.declared.events.Event.{Event}
use Rattle.group_model.specs.declared.events.Event.TheVariants as events
use Rattle.group_model.specs.declared.events.GroupAnswer.{GroupAnswer}
use Rattle.group_model.specs.declared.events.GroupAnswer.TheVariants as answers
use Rattle.group_model.specs.declared.events.Out.{Out}
use Rattle.group_model.specs.declared.refusals.Refusal.{Refusal}
use Rattle.group_model.specs.Plain.{Common, Host, Group, reach, with_ran, caught_up}
use Rattle.group_model.specs.Turns.{Turn, unchanged, costing}
use Rattle.group_model.specs.Asking.{asked_version}
use Rattle.group_model.specs.Views.{version, newest, newest_view, view_at}
use Rattle.group_model.specs.Decisions.{Row, first_row, view_rows, refused_by_view, unless_refused, request_named, known_then, looks_up, request_in}
use Rattle.group_model.specs.Serving.{accepted, admitted, served, served_or, unless_bad, on_request, asked_at, calls_behind}
use Rattle.group_model.specs.Transfers.{brought_to, ignoring, holding, ordered, on_checkpoint, on_send_update, on_state, on_update, on_order, on_view}
use Rattle.group_model.specs.Changes.{ChangeRow, changed_or, first_fault, change_rows}
use Rattle.group_model.specs.Counting.{asks_journal}
use Rattle.group_model.specs.Events.{if_up, turn, turn_of, host_of, is_log_fault, is_fault_of_log, shows_fault}
use Rattle.group_model.specs.Versions.{KnowsItsViews}
use Rattle.group_model.specs.Appending.{MayAppend, IsAcceptedAt}
use Rattle.group_model.specs.Lean.{Passes}
use Rattle.group_model.specs.Steps.{LeadsTo, IsStep}
use Rattle.group_model.proofs.Choosing.{either_so}
use Rattle.group_model.proofs.Knowing.{ErrIs, request_is, if_known}

-- ---- a write that doesn't fail

-- two turns, of which one is that of a write that fails: its answer shows it, or the two are the same
abbrev AreOne : Turn → Turn → Type 0
AreOne fails goes = shows_fault fails.answer ≡ false → fails ≡ goes

-- a decision that is no failed write's
not_logged : (decision : Decision) → asks_journal decision ≡ false → is_log_fault decision ≡ false
not_logged (decisions.Append i) e = absurd cc
not_logged (decisions.Repeat i) e = absurd cc
not_logged (decisions.Expired expiration now) e = absurd cc
not_logged (decisions.Other i) e = absurd cc
not_logged (decisions.Full limit) e = absurd cc
not_logged decisions.LogFault e = absurd cc
not_logged other e = refl

-- both of a turn's two forms
record IsWriting (whole : Bool → Turn) : Type 0 where
  same : AreOne (whole true) (whole false)
  unshown : shows_fault (whole false).answer ≡ false

accepted_unshown : (m : Machine) (c : Common) (h : Host) (host now : ℕ) (q : Request) (stop : Stop) → shows_fault (accepted m c h host now q stop).answer ≡ false
accepted_unshown m c h host now q Never = refl
accepted_unshown m c h host now q AfterAppend = refl
accepted_unshown m c h host now q AfterExecute = refl

admitted_writing : (m : Machine) (c : Common) (h : Host) (host now : ℕ) (q : Request) (stop : Stop) (a : Admission) → IsWriting (λ fails. admitted m c h host now q stop fails a)
admitted_writing m c h host now q stop (Expired e) = record { same = λ s. refl; unshown = refl }
admitted_writing m c h host now q stop (Same i) = record { same = λ s. refl; unshown = refl }
admitted_writing m c h host now q stop (Other i) = record { same = λ s. refl; unshown = refl }
admitted_writing m c h host now q stop Full = record { same = λ s. refl; unshown = refl }
admitted_writing m c h host now q stop New = record { same = λ s. absurd cc; unshown = accepted_unshown m c h host now q stop }

cost_writing : (n : ℕ) (whole : Bool → Turn) → IsWriting whole → IsWriting (λ fails. costing n (whole fails))
cost_writing n whole is = record { same = λ s. ap (costing n) (is.same s); unshown = is.unshown }

served_or_writing : (m : Machine) (c : Common) (h : Host) (host clock : ℕ) (stop : Stop) (r : Result Request Refusal) → ErrIs (λ x. is_log_fault x.decision ≡ false) r →
    IsWriting (λ fails. served_or m c h host clock stop fails r)
served_or_writing m c h host clock stop (Err refused) quiet = record { same = λ s. refl; unshown = quiet }
served_or_writing m c h host clock stop (Ok q) quiet =
    let d = with_ran (length c.journal) c in
    let now = max clock c.time in
    cost_writing (calls_behind c h) (λ fails. served m d (caught_up c h) host clock q stop fails) (admitted_writing m d (caught_up c h) host now q stop (admission c.journal now q))

unless_bad_writing : (bad : Option ℕ) (c : Common) (h : Host) (whole : Bool → Turn) → IsWriting whole → IsWriting (λ fails. unless_bad bad c h (whole fails))
unless_bad_writing None c h whole is = is
unless_bad_writing (Some id) c h whole is = record { same = λ s. refl; unshown = refl }

request_writing : (m : Machine) (c : Common) (h : Host) (host clock : ℕ) (asked : Asked) (stop : Stop) → IsWriting (on_request m c h host clock asked stop)
request_writing m c h host clock asked stop =
    let known = known_then (newest c) h.known asked.version in
    let h' : Host = record h { known = known } in
    unless_bad_writing asked.bad_context c h (λ fails. asked_at m c h' host clock asked stop fails)
    (served_or_writing m c h' host clock stop (request_in m c host known asked)
    (request_is (λ x. is_log_fault x.decision ≡ false) m c host known asked (λ d a e t. not_logged d e) (λ d a e t. not_logged d e)))

checkpoint_writing : (m : Machine) (c : Common) (h : Host) (host clock : ℕ) → IsWriting (on_checkpoint m c h host clock)
checkpoint_writing m c h host clock = record { same = λ s. absurd cc; unshown = refl }

-- a change is refused by a row, and none of these is the log's
abbrev NoneIsLogs : List ChangeRow → Type 0
NoneIsLogs [] = Unit {0}
NoneIsLogs (r ∷ rows) = (is_fault_of_log r.fault ≡ false) × NoneIsLogs rows

abbrev IsNotLogs : Option ManageFault → Type 0
IsNotLogs None = Unit {0}
IsNotLogs (Some fault) = is_fault_of_log fault ≡ false

one_not_logs : (b : Bool) (x : ManageFault) (o : Option ManageFault) → is_fault_of_log x ≡ false → IsNotLogs o → IsNotLogs (if b then Some x else o)
one_not_logs true x o e rest = e
one_not_logs false x o e rest = rest

rows_not_logs : (rows : List ChangeRow) → NoneIsLogs rows → IsNotLogs (first_fault rows)
rows_not_logs [] all = tt
rows_not_logs (r ∷ rows) all = one_not_logs r.stands r.fault (first_fault rows) all.0 (rows_not_logs rows all.1)

changed_or_writing : (c : Common) (h : Host) (change : Change) (o : Option ManageFault) → IsNotLogs o → IsWriting (λ fails. changed_or c h change fails o)
changed_or_writing c h change (Some fault) quiet = record { same = λ s. refl; unshown = quiet }
changed_or_writing c h change None quiet = record { same = λ s. absurd cc; unshown = refl }

-- a turn that the log's write has nothing to do with
still : (t : Turn) → shows_fault t.answer ≡ false → IsWriting (λ fails. t)
still t quiet = record { same = λ s. refl; unshown = quiet }

if_up_writing : (c : Common) (h : Host) (whole : Bool → Turn) → IsWriting whole → IsWriting (λ fails. if_up c h (whole fails))
if_up_writing c h whole is = go h.up where
  go : (b : Bool) → IsWriting (λ fails. if b then whole fails else unchanged c h answers.Down)
  go true = is
  go false = record { same = λ s. refl; unshown = refl }

one_of_three : (b d : Bool) (x y z : Turn) → shows_fault x.answer ≡ false → shows_fault y.answer ≡ false → shows_fault z.answer ≡ false →
    shows_fault (if b then x else (if d then y else z)).answer ≡ false
one_of_three true d x y z p q r = p
one_of_three false true x y z p q r = q
one_of_three false false x y z p q r = r

ordered_unshown : (c : Common) (h : Host) (n : ℕ) → shows_fault (ordered c h n).answer ≡ false
ordered_unshown c h n = either_so (λ (a : GroupAnswer). shows_fault a ≡ false) (nat_lt h.place.position n) (answers.Applied n) (answers.Held h.place.position) (λ e. refl) (λ e. refl)

view_unshown : (c : Common) (h : Host) (sent : ℕ) → shows_fault (on_view c h sent).answer ≡ false
view_unshown c h sent =
    either_so (λ (t : Turn). shows_fault t.answer ≡ false) (nat_lt h.known sent) (unchanged c (record h { known = sent }) (answers.Known (version sent)))
    (ignoring c h (causes.Known (version sent) (version h.known))) (λ e. refl) (λ e. refl)

turn_writing : (m : Machine) (c : Common) (h : Host) (e : Event) → IsWriting (turn m c h e)
turn_writing m c h (events.Request host clock asked stop) = if_up_writing c h (on_request m c h host.0 clock.0 asked stop) (request_writing m c h host.0 clock.0 asked stop)
turn_writing m c h (events.View host sent) = if_up_writing c h (λ fails. on_view c h sent.0) (still (on_view c h sent.0) (view_unshown c h sent.0))
turn_writing m c h (events.State host n state) =
    if_up_writing c h (λ fails. on_state c h n)
    (still (on_state c h n) (one_of_three (not h.place.loaded) (nat_lt h.place.position n) (brought_to n c h) (brought_to n c h) (ignoring c h (causes.Position n h.place.position)) refl refl refl))
turn_writing m c h (events.Update host n to update) =
    if_up_writing c h (λ fails. on_update c h n to)
    (still (on_update c h n to) (one_of_three (not h.place.loaded) (nat_eq h.place.position n) (ignoring c h causes.NotLoaded) (brought_to to c h) (ignoring c h (causes.From n h.place.position)) refl refl refl))
turn_writing m c h (events.Order host i request) =
    let n = reach (holding h i).holdback h.place.position in
    if_up_writing c h (λ fails. on_order c h i)
    (still (on_order c h i) (one_of_three (not h.place.loaded) (nat_lt i h.place.position) (ignoring c h causes.NotLoaded) (ignoring c h (causes.Order i h.place.position)) (ordered c (holding h i) n)
    refl refl (ordered_unshown c (holding h i) n)))
turn_writing m c h (events.Crash host) = record { same = λ s. refl; unshown = refl }
turn_writing m c h (events.Restart host) = record { same = λ s. refl; unshown = refl }
turn_writing m c h (events.Checkpoint host clock) = if_up_writing c h (on_checkpoint m c h host.0 clock.0) (checkpoint_writing m c h host.0 clock.0)
turn_writing m c h (events.SendUpdate host) = if_up_writing c h (λ fails. on_send_update m c h host.0) (still (on_send_update m c h host.0) refl)
turn_writing m c h (events.Manage change) =
    changed_or_writing c h change (first_fault (change_rows c.style (newest_view c) change))
    (rows_not_logs (change_rows c.style (newest_view c) change) (refl, (refl, (refl, (refl, (refl, (refl, (refl, (refl, tt)))))))))

pub unshown_same : (m : Machine) (g : Group) (e : Event) → shows_fault (turn_of m g e true).answer ≡ false → turn_of m g e true ≡ turn_of m g e false
unshown_same m g e = (turn_writing m g.common (g.hosts (host_of e)) e).same

pub only_shown : (m : Machine) (g : Group) (e : Event) → shows_fault (turn_of m g e false).answer ≡ false
only_shown m g e = (turn_writing m g.common (g.hosts (host_of e)) e).unshown

-- ---- who appends

-- no row of a list stands
abbrev AllPass : List Row → Type 0
AllPass [] = Unit {0}
AllPass (r ∷ rows) = (r.stands ≡ false) × AllPass rows

passed_first : (b : Bool) (x : Refusal) (o : Option Refusal) → (if b then Some x else o) ≡ None → (b ≡ false) × (o ≡ None)
passed_first true x o e = absurd cc
passed_first false x o e = (refl, e)

none_stands : (rows : List Row) → first_row rows ≡ None → AllPass rows
none_stands [] e = tt
none_stands (r ∷ rows) e =
    let both = passed_first r.stands r.refused (first_row rows) e in
    (both.0, none_stands rows both.1)

not_not : (b : Bool) → not b ≡ false → b ≡ true
not_not true e = refl
not_not false e = absurd cc

and_not : (a b : Bool) → a ≡ true → (a && not b) ≡ false → b ≡ true
and_not true b e f = not_not b f
and_not false b e f = absurd cc

-- what passes was refused by no row on views
passed_views : (o : Option Refusal) (r : Result Request Refusal) (q : Request) → unless_refused o r ≡ Ok q → o ≡ None
passed_views None r q e = refl
passed_views (Some x) r q e = absurd cc

-- so its host may append, where it knows no more than there is
record LeadsHere (c : Common) (host known : ℕ) : Type 0 where
  newest_known : known ≡ newest c
  member : is_member host (newest_view c).members ≡ true
  leads : is_passive c.style ≡ true → is_led_by (newest_view c) host ≡ true

leads_here : (m : Machine) (c : Common) (host known : ℕ) (asked : Asked) (q : Request) → known ≤ newest c → request_in m c host known asked ≡ Ok q → LeadsHere c host known
leads_here m c host known asked q few passes =
    let version = asked_version known asked.version in
    let none = passed_views (refused_by_view c host version known) (request_named m known asked asked.op) q passes in
    let rows = none_stands (view_rows c.style host version known (view_at c.views known) (newest c) (newest_view c)) none in
    let last : nat_lt known (newest c) ≡ false = rows.1.1.1.1.1.1.0 in
    let same : known ≡ newest c = grind (arith, nat_tests, few) in
    let there : is_member host (view_at c.views known).members ≡ true = not_not (is_member host (view_at c.views known).members) rows.1.1.1.0 in
    record {
      newest_known = same;
      member = subst (λ (k : ℕ). is_member host (view_at c.views k).members ≡ true) same there;
      leads = λ passive. subst (λ (k : ℕ). is_led_by (view_at c.views k) host ≡ true) same (and_not (is_passive c.style) (is_led_by (view_at c.views known) host) passive rows.1.1.1.1.0);
    }

-- an answer that tells of an append
abbrev Appends : GroupAnswer → Type 0
Appends (answers.Reply (decisions.Append i) answer out) = Unit {0}
Appends other = ⊥

not_asked : (decision : Decision) (answer : Option Answer) (out : List Out) → asks_journal decision ≡ false → Appends (answers.Reply decision answer out) → ⊥
not_asked (decisions.Append i) answer out e a = absurd cc
not_asked (decisions.Repeat i) answer out e a = a
not_asked (decisions.Expired expiration now) answer out e a = a
not_asked (decisions.Other i) answer out e a = a
not_asked (decisions.Full limit) answer out e a = a
not_asked decisions.LogFault answer out e a = a
not_asked (decisions.Newer asked newest) answer out e a = a
not_asked (decisions.Empty version) answer out e a = a
not_asked (decisions.Older asked known) answer out e a = a
not_asked (decisions.Stranger version) answer out e a = a
not_asked (decisions.Backup version) answer out e a = a
not_asked (decisions.Deposed known newest) answer out e a = a
not_asked decisions.BadOperation answer out e a = a
not_asked (decisions.Marshal place) answer out e a = a
not_asked (decisions.Long n) answer out e a = a
not_asked (decisions.Context id) answer out e a = a

served_or_appends : (m : Machine) (c : Common) (h : Host) (host clock known : ℕ) (stop : Stop) (fails : Bool) (r : Result Request Refusal) → ErrIs (λ x. asks_journal x.decision ≡ false) r →
    ((q : Request) → r ≡ Ok q → LeadsHere c host known) → Appends (served_or m c h host clock stop fails r).answer → LeadsHere c host known
served_or_appends m c h host clock known stop fails (Err refused) quiet leads appends = absurd (not_asked refused.decision (Some refused.answer) [] quiet appends)
served_or_appends m c h host clock known stop fails (Ok q) quiet leads appends = leads q refl

unless_bad_appends : (P : Type 0) (bad : Option ℕ) (c : Common) (h : Host) (t : Turn) → (Appends t.answer → P) → Appends (unless_bad bad c h t).answer → P
unless_bad_appends P None c h t leads = leads
unless_bad_appends P (Some id) c h t leads = λ a. absurd a

pub only_leaders : (m : Machine) (g : Group) (fails : Bool) (host : HostNo) (clock : Tick) (asked : Asked) (stop : Stop)
    (i : ℕ) (answer : Option Answer) (out : List Out) → KnowsItsViews g →
    (turn_of m g (events.Request host clock asked stop) fails).answer ≡ answers.Reply (decisions.Append i) answer out → MayAppend g host.0 asked
only_leaders m g fails host clock asked stop i answer out knows told = go h.up refl appends where
  c : Common
  c = g.common

  h : Host
  h = g.hosts host.0

  known : ℕ
  known = known_then (newest c) h.known asked.version

  whole : Turn
  whole = on_request m c h host.0 clock.0 asked stop fails

  appends : Appends (if_up c h whole).answer
  appends = subst Appends (sym told) tt

  here : Appends whole.answer → LeadsHere c host.0 known
  here = unless_bad_appends (LeadsHere c host.0 known) asked.bad_context c h (asked_at m c (record h { known = known }) host.0 clock.0 asked stop fails)
      (served_or_appends m c (record h { known = known }) host.0 clock.0 known stop fails (request_in m c host.0 known asked)
      (request_is (λ x. asks_journal x.decision ≡ false) m c host.0 known asked (λ d a e t. e) (λ d a e t. e))
      (λ q is. leads_here m c host.0 known asked q (if_known (looks_up h.known asked.version) h.known (newest c) (knows.known host.0)).1 is))

  go : (b : Bool) → h.up ≡ b → Appends (if b then whole else unchanged c h answers.Down).answer → MayAppend g host.0 asked
  go true up a = let is = here a in record { up = up; known = is.newest_known; member = is.member; leads = is.leads }
  go false down a = absurd a

-- ---- a new request is accepted

accepted_at : (m : Machine) (c : Common) (h : Host) (host now : ℕ) (q : Request) (stop : Stop) → IsAcceptedAt (length c.journal) (accepted m c h host now q stop).answer
accepted_at m c h host now q Never = refl
accepted_at m c h host now q AfterAppend = refl
accepted_at m c h host now q AfterExecute = refl

turn_accepts : (m : Machine) (g : Group) (host : HostNo) (clock : Tick) (asked : Asked) (stop : Stop) (q : Request) → (g.hosts host.0).up ≡ true → Passes m g host asked q →
    admission g.common.journal (max clock.0 g.common.time) q ≡ New → IsAcceptedAt (length g.common.journal) (turn_of m g (events.Request host clock asked stop) false).answer
turn_accepts m g host clock asked stop q up passes new =
    let c = g.common in
    let h = g.hosts host.0 in
    let h' : Host = record h { known = known_then (newest c) h.known asked.version } in
    let d = with_ran (length c.journal) c in
    let now = max clock.0 c.time in
    let whole = turn_of m g (events.Request host clock asked stop) false in
    let good = asked_at m c h' host.0 clock.0 asked stop false in
    let is : whole.answer ≡ (admitted m d (caught_up c h') host.0 now q stop false New).answer =
    ap (λ (b : Bool). (if b then on_request m c h host.0 clock.0 asked stop false else unchanged c h answers.Down).answer) up
    ∙ ap (λ (b : Option ℕ). (unless_bad b c h good).answer) passes.good
    ∙ ap (λ (r : Result Request Refusal). (served_or m c h' host.0 clock.0 stop false r).answer) passes.is
    ∙ ap (λ (a : Admission). (admitted m d (caught_up c h') host.0 now q stop false a).answer) new in
    subst (IsAcceptedAt (length c.journal)) (sym is) (accepted_at m d (caught_up c h') host.0 now q stop)

leads_accepts : (m : Machine) (g : Group) (e : Event) (answer : GroupAnswer) (after : Group) (i : ℕ) → LeadsTo m g e answer after → shows_fault answer ≡ false →
    IsAcceptedAt i (turn_of m g e false).answer → IsAcceptedAt i answer
leads_accepts m g e answers.NoMemory after i lean shown is = tt
leads_accepts m g e answer after i leads shown is =
    subst (IsAcceptedAt i) leads.0 (subst (λ (b : Bool). IsAcceptedAt i (turn_of m g e b).answer) (sym shown) is)

pub new_accepted : (m : Machine) (g : Group) (host : HostNo) (clock : Tick) (asked : Asked) (stop : Stop) (q : Request) (answer : GroupAnswer) (after : Group) →
    (g.hosts host.0).up ≡ true → Passes m g host asked q → admission g.common.journal (max clock.0 g.common.time) q ≡ New →
    IsStep m g (events.Request host clock asked stop) answer after → shows_fault answer ≡ false → IsAcceptedAt (length g.common.journal) answer
new_accepted m g host clock asked stop q answer after up passes new step shown =
    leads_accepts m g (events.Request host clock asked stop) answer after (length g.common.journal) step.leads shown (turn_accepts m g host clock asked stop q up passes new)
