-- No turn sends more than to the members of a view.
use Rattle.std.proofs.Common.{◌≡◌, ℕ, ◌+◌, ◌-◌, ◌≤◌, ◌||◌, max, Bool, true, false, List, [], ◌∷◌, ◌++◌, length, length-append, Option, Some, None, Result, Ok, Err, refl, if◌then◌else◌, eq-eqb, leb-false, arith}
use Rattle.std.specs.Prelude.{nat_lt, nat_eq, not}
use Rattle.std.specs.List.{AllByRecursion, filter}
use Rattle.std.proofs.lemmas.List.{length-map}
use Rattle.ft_base.specs.Machine.{Machine}
use Rattle.ft_base.specs.Members.{AreDifferent, is_member}
use Rattle.ft_base.specs.Views.{is_passive}
use Rattle.ft_base.specs.Admissions.{admission}
use Rattle.ft_base.specs.declared.admissions.Admission.{Admission}
use Rattle.ft_base.specs.declared.admissions.Admission.TheVariants.{Expired, Same, Other, Full, New}
use Rattle.ft_base.specs.declared.decisions.Ignored.TheVariants as causes
use Rattle.ft_base.specs.declared.decisions.Stop.{Stop}
use Rattle.ft_base.specs.declared.decisions.Stop.TheVariants.{Never, AfterAppend, AfterExecute}
use Rattle.ft_base.specs.declared.requests.Request.{Request}
use Rattle.ft_base.specs.declared.views.TheConstants.{MEMBER_LIMIT}
use Rattle.group_model.specs.declared.asking.Asked.{Asked}
use Rattle.group_model.specs.declared.changes.Change.{Change}
use Rattle.group_model.specs.declared.changes.Change.TheVariants.{Report, Remove, Add, Create, Primary, Replace}
use Rattle.group_model.specs.declared.changes.ManageFault.{ManageFault}
use Rattle.group_model.specs.declared.events.Event.{Event}
use Rattle.group_model.specs.declared.events.Event.TheVariants as events
use Rattle.group_model.specs.declared.events.GroupAnswer.{GroupAnswer}
use Rattle.group_model.specs.declared.events.GroupAnswer.TheVariants.{Applied, Held, Known, Down}
use Rattle.group_model.specs.declared.events.Inner.{Inner}
use Rattle.group_model.specs.declared.events.Inner.TheVariants as inners
use Rattle.group_model.specs.declared.events.Out.{Out}
use Rattle.group_model.specs.declared.refusals.Refusal.{Refusal}
use Rattle.group_model.specs.Plain.{Common, Host, Group, reach, with_ran, caught_up, state_at}
use Rattle.group_model.specs.Turns.{Turn, unchanged}
use Rattle.group_model.specs.Views.{version, host_no, newest, newest_view, is_warm, without, sent_to, to_others}
use Rattle.group_model.specs.Decisions.{known_then, request_in}
use Rattle.group_model.specs.Serving.{accepted, admitted, served_or, unless_bad, on_request, asked_at}
use Rattle.group_model.specs.Transfers.{brought_to, ignoring, holding, ordered, taking, checkpoint_written, on_checkpoint, on_send_update, on_state, on_update, on_order, on_view}
use Rattle.group_model.specs.Changes.{changed, changed_or, members_then, next_view, first_fault, change_rows}
use Rattle.group_model.specs.Events.{if_up, turn, turn_of, host_of}
use Rattle.group_model.specs.Agreeing.{AreViews, IsSound}
use Rattle.group_model.specs.Sending.{sent_by}
use Rattle.group_model.specs.Amounts.{most_told, most_sent}
use Rattle.group_model.proofs.Choosing.{either_so}
use Rattle.group_model.proofs.Growing.{either}
use Rattle.group_model.proofs.Told.{few_told}
use Rattle.group_model.proofs.Viewing.{may_change, fewer_without, all_without, newest_there}

-- ---- lists of members

or_right : (a b : Bool) → b ≡ true → (a || b) ≡ true
or_right true b e = refl
or_right false b e = e

or_left : (a b : Bool) → a ≡ true → (a || b) ≡ true
or_left true b e = refl
or_left false b e = absurd cc

-- these are all among those
abbrev pub AreAmong : List ℕ → List ℕ → Type 0
AreAmong those these = AllByRecursion (λ m. is_member m those ≡ true) these

among_more : (x : ℕ) (those these : List ℕ) → AreAmong those these → AreAmong (x ∷ those) these
among_more x those [] all = tt
among_more x those (m ∷ these) all = (or_right (nat_eq x m) (is_member m those) all.0, among_more x those these all.1)

pub among_themselves : (xs : List ℕ) → AreAmong xs xs
among_themselves [] = tt
among_themselves (x ∷ xs) = (or_left (nat_eq x x) (is_member x xs) (eq-eqb x x refl), among_more x xs xs (among_themselves xs))

-- those that join
abbrev pub joining : List ℕ → List ℕ → List ℕ
joining old new = filter (λ m. not (is_member m old)) new

pub none_joins : (old new : List ℕ) → AreAmong old new → length (joining old new) ≤ 0
none_joins old [] all = omega arith
none_joins old (m ∷ new) all =
    let less = none_joins old new all.1 in
    either_so (λ (l : List ℕ). length l ≤ 0) (not (is_member m old)) (m ∷ joining old new) (joining old new)
    (λ is_new. absurd (clash (is_member m old) all.0 is_new)) (λ was. less)
  where
    clash : (b : Bool) → b ≡ true → not b ≡ true → ⊥
    clash true e f = cc
    clash false e f = cc

pub one_joins : (old new : List ℕ) (x : ℕ) → length (joining old (new ++ x ∷ [])) ≤ length (joining old new) + 1
one_joins old [] x = either_so (λ (l : List ℕ). length l ≤ 1) (not (is_member x old)) (x ∷ []) [] (λ e. omega arith) (λ e. omega arith)
one_joins old (m ∷ new) x = go (not (is_member m old)) (one_joins old new x) where
  go : (b : Bool) → length (joining old (new ++ x ∷ [])) ≤ length (joining old new) + 1 →
      length (if b then m ∷ joining old (new ++ x ∷ []) else joining old (new ++ x ∷ [])) ≤ length (if b then m ∷ joining old new else joining old new) + 1
  go true less = omega (arith, less)
  go false less = less

-- ---- what is sent

sent_count : (hosts : List ℕ) (carried : Inner) → length (sent_to hosts carried) ≡ length hosts
sent_count hosts carried = length-map hosts (λ m. record { to = host_no m; carried = carried })

newest_few : (c : Common) → AreViews c.style c.views → length (newest_view c).members ≤ MEMBER_LIMIT
newest_few c views = (views.each (length c.views - 1) (newest_view c) (newest_there c.views views.some)).is.few

newest_different : (c : Common) → AreViews c.style c.views → AreDifferent (newest_view c).members
newest_different c views = (views.each (length c.views - 1) (newest_view c) (newest_there c.views views.some)).is.different

others_few : (c : Common) (host : ℕ) (carried : Inner) → AreViews c.style c.views → length (to_others c host carried) ≤ MEMBER_LIMIT
others_few c host carried views =
    omega (arith, sent_count (without host (newest_view c).members) carried, fewer_without host (newest_view c).members, newest_few c views)

-- ---- turns

-- it sends no more than to the members of a view
abbrev Few : Turn → Type 0
Few t = length (sent_by t.answer) ≤ MEMBER_LIMIT

nothing_few : 0 ≤ MEMBER_LIMIT
nothing_few = omega arith

if_few : (b : Bool) (x y : List Out) → length x ≤ MEMBER_LIMIT → length y ≤ MEMBER_LIMIT → length (if b then x else y) ≤ MEMBER_LIMIT
if_few true x y p q = p
if_few false x y p q = q

accepted_few : (m : Machine) (c : Common) (h : Host) (host now : ℕ) (q : Request) (stop : Stop) → AreViews c.style c.views → Few (accepted m c h host now q stop)
accepted_few m c h host now q Never views =
    if_few (is_passive c.style) [] (to_others c host (inners.Order (length c.journal) q)) nothing_few (others_few c host (inners.Order (length c.journal) q) views)
accepted_few m c h host now q AfterAppend views = nothing_few
accepted_few m c h host now q AfterExecute views = nothing_few

admitted_few : (m : Machine) (c : Common) (h : Host) (host now : ℕ) (q : Request) (stop : Stop) (fails : Bool) (a : Admission) → AreViews c.style c.views →
    Few (admitted m c h host now q stop fails a)
admitted_few m c h host now q stop fails (Expired e) views = nothing_few
admitted_few m c h host now q stop fails (Same i) views = nothing_few
admitted_few m c h host now q stop fails (Other i) views = nothing_few
admitted_few m c h host now q stop fails Full views = nothing_few
admitted_few m c h host now q stop true New views = nothing_few
admitted_few m c h host now q stop false New views = accepted_few m c h host now q stop views

served_or_few : (m : Machine) (c : Common) (h : Host) (host clock : ℕ) (stop : Stop) (fails : Bool) (r : Result Request Refusal) → AreViews c.style c.views →
    Few (served_or m c h host clock stop fails r)
served_or_few m c h host clock stop fails (Err refused) views = nothing_few
served_or_few m c h host clock stop fails (Ok q) views =
    let now = max clock c.time in
    admitted_few m (with_ran (length c.journal) c) (caught_up c h) host now q stop fails (admission c.journal now q) views

unless_bad_few : (bad : Option ℕ) (c : Common) (h : Host) (t : Turn) → Few t → Few (unless_bad bad c h t)
unless_bad_few None c h t few = few
unless_bad_few (Some id) c h t few = nothing_few

request_few : (m : Machine) (c : Common) (h : Host) (host clock : ℕ) (asked : Asked) (stop : Stop) (fails : Bool) → AreViews c.style c.views →
    Few (on_request m c h host clock asked stop fails)
request_few m c h host clock asked stop fails views =
    let known = known_then (newest c) h.known asked.version in
    let h' : Host = record h { known = known } in
    unless_bad_few asked.bad_context c h (asked_at m c h' host clock asked stop fails)
    (served_or_few m c h' host clock stop fails (request_in m c host known asked) views)

written_few : (m : Machine) (c : Common) (h : Host) (host clock : ℕ) (fails : Bool) → AreViews c.style c.views → Few (checkpoint_written m c h host clock fails)
written_few m c h host clock true views = nothing_few
written_few m c h host clock false views =
    let state = inners.State h.place.position (state_at m c h.place.position) in
    if_few (is_warm c.style) (to_others c host state) [] (others_few c host state views) nothing_few

one_of_three : (b d : Bool) (x y z : Turn) → Few x → Few y → Few z → Few (if b then x else (if d then y else z))
one_of_three b d x y z p q r = either Few b x (if d then y else z) p (either Few d y z q r)

ordered_few : (c : Common) (h : Host) (n : ℕ) → Few (ordered c h n)
ordered_few c h n =
    either_so (λ (a : GroupAnswer). length (sent_by a) ≤ MEMBER_LIMIT) (nat_lt h.place.position n) (Applied n) (Held h.place.position) (λ e. nothing_few) (λ e. nothing_few)

view_few : (c : Common) (h : Host) (sent : ℕ) → Few (on_view c h sent)
view_few c h sent =
    either Few (nat_lt h.known sent) (unchanged c (record h { known = sent }) (Known (version sent))) (ignoring c h (causes.Known (version sent) (version h.known))) nothing_few nothing_few

-- ---- changes

-- of the old members and those that join there are few
told_few : (c : Common) (change : Change) → AreViews c.style c.views → first_fault (change_rows c.style (newest_view c) change) ≡ None →
    length (newest_view c).members + length (joining (newest_view c).members (members_then change (newest_view c).members)) ≤ most_told change
told_few c (Report host) views none =
    omega (
      arith,
      newest_few c views,
      none_joins (newest_view c).members (without host.0 (newest_view c).members)
          (all_without (λ m. is_member m (newest_view c).members ≡ true) host.0 (newest_view c).members (among_themselves (newest_view c).members)),
    )
told_few c (Remove host) views none =
    omega (
      arith,
      newest_few c views,
      none_joins (newest_view c).members (without host.0 (newest_view c).members)
          (all_without (λ m. is_member m (newest_view c).members ≡ true) host.0 (newest_view c).members (among_themselves (newest_view c).members)),
    )
told_few c (Add host) views none =
    let members = (newest_view c).members in
    let room = leb-false MEMBER_LIMIT (length members) (may_change c.style (newest_view c) (Add host) none).room in
    omega (arith, room, one_joins members members host.0, none_joins members members (among_themselves members))
told_few c (Create host listed made) views none =
    let members = (newest_view c).members in
    let room = leb-false MEMBER_LIMIT (length members) (may_change c.style (newest_view c) (Create host listed made) none).room in
    omega (arith, room, one_joins members members host.0, none_joins members members (among_themselves members))
told_few c (Primary host) views none =
    let members = (newest_view c).members in omega (arith, newest_few c views, none_joins members members (among_themselves members))
told_few c (Replace host spares) views none =
    few_told c.style (newest_view c) (Replace host spares) (newest_different c views) (newest_few c views) none

-- the view is sent to them
changed_few : (c : Common) (h : Host) (change : Change) (fails : Bool) → AreViews c.style c.views → first_fault (change_rows c.style (newest_view c) change) ≡ None →
    length (sent_by (changed c h (newest_view c) (next_view c.style (newest_view c) change) fails).answer) ≤ most_told change
changed_few c h change true views none = omega (arith, told_few c change views none)
changed_few c h change false views none =
    let old = newest_view c in
    let new = next_view c.style old change in
    let view = inners.View new.version in
    omega (
      arith,
      length-append (sent_to old.members view) (sent_to (joining old.members new.members) view),
      sent_count old.members view,
      sent_count (joining old.members new.members) view,
      told_few c change views none,
    )

changed_or_few : (c : Common) (h : Host) (change : Change) (fails : Bool) (r : Option ManageFault) → first_fault (change_rows c.style (newest_view c) change) ≡ r →
    AreViews c.style c.views → length (sent_by (changed_or c h change fails r).answer) ≤ most_told change
changed_or_few c h change fails (Some fault) is views = omega arith
changed_or_few c h change fails None is views = changed_few c h change fails views is

-- ---- events

if_up_few : (c : Common) (h : Host) (t : Turn) → Few t → Few (if_up c h t)
if_up_few c h t few = either Few h.up t (unchanged c h Down) few nothing_few

turn_few : (m : Machine) (c : Common) (h : Host) (e : Event) (fails : Bool) → AreViews c.style c.views → length (sent_by (turn m c h e fails).answer) ≤ most_sent e
turn_few m c h (events.Request host clock asked stop) fails views =
    if_up_few c h (on_request m c h host.0 clock.0 asked stop fails) (request_few m c h host.0 clock.0 asked stop fails views)
turn_few m c h (events.View host sent) fails views = if_up_few c h (on_view c h sent.0) (view_few c h sent.0)
turn_few m c h (events.State host n state) fails views =
    if_up_few c h (on_state c h n)
    (one_of_three (not h.place.loaded) (nat_lt h.place.position n) (brought_to n c h) (brought_to n c h) (ignoring c h (causes.Position n h.place.position)) nothing_few nothing_few nothing_few)
turn_few m c h (events.Update host n to update) fails views =
    if_up_few c h (on_update c h n to)
    (one_of_three (not h.place.loaded) (nat_eq h.place.position n) (ignoring c h causes.NotLoaded) (brought_to to c h) (ignoring c h (causes.From n h.place.position)) nothing_few nothing_few nothing_few)
turn_few m c h (events.Order host i request) fails views =
    let n = reach (holding h i).holdback h.place.position in
    if_up_few c h (on_order c h i)
    (one_of_three (not h.place.loaded) (nat_lt i h.place.position) (ignoring c h causes.NotLoaded) (ignoring c h (causes.Order i h.place.position)) (ordered c (holding h i) n)
    nothing_few nothing_few (ordered_few c (holding h i) n))
turn_few m c h (events.Checkpoint host clock) fails views =
    if_up_few c h (on_checkpoint m c h host.0 clock.0 fails) (written_few m (with_ran (length c.journal) c) (taking c h) host.0 clock.0 fails views)
turn_few m c h (events.SendUpdate host) fails views =
    if_up_few c h (on_send_update m c h host.0) (others_few (with_ran (length c.journal) c) host.0 _ views)
turn_few m c h (events.Manage change) fails views = changed_or_few c h change fails (first_fault (change_rows c.style (newest_view c) change)) refl views
turn_few m c h (events.Crash host) fails views = nothing_few
turn_few m c h (events.Restart host) fails views = nothing_few

pub few_are_sent : (m : Machine) (g : Group) (e : Event) (fails : Bool) → IsSound m g → length (sent_by (turn_of m g e fails).answer) ≤ most_sent e
few_are_sent m g e fails sound = turn_few m g.common (g.hosts (host_of e)) e fails sound.common.views
