-- Which versions the hosts of a group know, and which are sent.
use Rattle.std.proofs.Common.{◌≡◌, ℕ, ◌+◌, ◌-◌, ◌≤◌, max, Bool, true, false, List, [], ◌∷◌, ◌++◌, length, length-append, Option, Some, None, Result, Ok, Err, refl, sym, ap, subst, ◌∙◌, if◌then◌else◌, arith}
use Rattle.std.specs.Prelude.{nat_lt, nat_eq, not, slice_index_or}
use Rattle.std.specs.List.{AllByRecursion, filter}
use Rattle.ft_base.specs.Machine.{Machine}
use Rattle.ft_base.specs.Admissions.{admission}
use Rattle.ft_base.specs.Members.{is_member}
use Rattle.ft_base.specs.Views.{is_passive}
use Rattle.ft_base.specs.declared.admissions.Admission.{Admission}
use Rattle.ft_base.specs.declared.admissions.Admission.TheVariants.{Expired, Same, Other, Full, New}
use Rattle.ft_base.specs.declared.decisions.Ignored.TheVariants as causes
use Rattle.ft_base.specs.declared.decisions.Stop.{Stop}
use Rattle.ft_base.specs.declared.decisions.Stop.TheVariants.{Never, AfterAppend, AfterExecute}
use Rattle.ft_base.specs.declared.numbers.HostNo.{HostNo}
use Rattle.ft_base.specs.declared.requests.Request.{Request}
use Rattle.ft_base.specs.declared.views.View.{View}
use Rattle.group_model.specs.declared.asking.Asked.{Asked}
use Rattle.group_model.specs.declared.changes.Change.{Change}
use Rattle.group_model.specs.declared.changes.ManageFault.{ManageFault}
use Rattle.group_model.specs.declared.events.Event.{Event}
use Rattle.group_model.specs.declared.events.Event.TheVariants as events
use Rattle.group_model.specs.declared.events.GroupAnswer.{GroupAnswer}
use Rattle.group_model.specs.declared.events.GroupAnswer.TheVariants.{Known, Applied, Held, Down}
use Rattle.group_model.specs.declared.events.Inner.{Inner}
use Rattle.group_model.specs.declared.events.Inner.TheVariants as inners
use Rattle.group_model.specs.declared.events.Out.{Out}
use Rattle.group_model.specs.declared.refusals.Refusal.{Refusal}
use Rattle.group_model.specs.Plain.{Common, Host, Group, reach, with_ran, caught_up, state_at, delta_at}
use Rattle.group_model.specs.Turns.{Turn, unchanged}
use Rattle.group_model.specs.Views.{host_no, is_warm, newest, newest_view, no_view, sent_to, to_others, version, view_at, without}
use Rattle.group_model.specs.Decisions.{known_then, looks_up, request_in}
use Rattle.group_model.specs.Serving.{accepted, admitted, served_or, unless_bad, on_request}
use Rattle.group_model.specs.Transfers.{brought_to, ignoring, holding, ordered, checkpoint_written, on_checkpoint, on_send_update, on_state, on_update, on_order, on_view, taking}
use Rattle.group_model.specs.Changes.{change_rows, changed_or, first_fault, next_view, with_view}
use Rattle.group_model.specs.Events.{if_up, turn, turn_of, host_of, after_event}
use Rattle.group_model.specs.Sending.{brought, sent_by}
use Rattle.group_model.specs.Versions.{IsHad, KnowsItsViews}
use Rattle.group_model.proofs.Choosing.{either_so}
use Rattle.group_model.proofs.Knowing.{ErrIs, if_known, request_is}

either : {A : Type 0} (P : A → Type 0) (b : Bool) (x y : A) → P x → P y → P (if b then x else y)
either P b x y p q = either_so P b x y (λ is. p) (λ is. q)

-- ---- what is sent to some hosts

abbrev AllHad : Common → List Out → Type 0
AllHad c out = AllByRecursion (λ (o : Out). IsHad c (brought o)) out

-- whoever hears it
abbrev MayHear : Common → Inner → Type 0
MayHear c carried = (to : HostNo) → IsHad c (brought (record { to = to; carried = carried }))

all_hear : (c : Common) (carried : Inner) (hosts : List ℕ) → MayHear c carried → AllHad c (sent_to hosts carried)
all_hear c carried [] may = tt
all_hear c carried (host ∷ hosts) may = (may (host_no host), all_hear c carried hosts may)

both_had : (c : Common) (xs ys : List Out) → AllHad c xs → AllHad c ys → AllHad c (xs ++ ys)
both_had c [] ys all more = more
both_had c (x ∷ xs) ys all more = (all.0, both_had c xs ys all.1 more)

-- ---- turns that leave the views

-- its host knows no version past them, and what it sends tells of none
record Stays (c : Common) (t : Turn) : Type 0 where
  views : t.common.views ≡ c.views
  known : t.host.known ≤ newest c
  sent : AllHad c (sent_by t.answer)

-- an answer that sends nothing
quiet : (c : Common) (h : Host) (answer : GroupAnswer) → h.known ≤ newest c → AllHad c (sent_by answer) → Stays c (unchanged c h answer)
quiet c h answer le sent = record { views = refl; known = le; sent = sent }

accepted_stays : (m : Machine) (c : Common) (h : Host) (host now : ℕ) (q : Request) (stop : Stop) → h.known ≤ newest c → Stays c (accepted m c h host now q stop)
accepted_stays m c h host now q Never le = record {
  views = refl;
  known = le;
  sent = either (AllHad c) (is_passive c.style) [] (to_others c host (inners.Order (length c.journal) q)) tt
      (all_hear c (inners.Order (length c.journal) q) (without host (newest_view c).members) (λ to. tt));
}
accepted_stays m c h host now q AfterAppend le = record { views = refl; known = omega arith; sent = tt }
accepted_stays m c h host now q AfterExecute le = record { views = refl; known = omega arith; sent = tt }

admitted_stays : (m : Machine) (c : Common) (h : Host) (host now : ℕ) (q : Request) (stop : Stop) (fails : Bool) (a : Admission) → h.known ≤ newest c →
    Stays c (admitted m c h host now q stop fails a)
admitted_stays m c h host now q stop fails (Expired e) le = quiet c h _ le tt
admitted_stays m c h host now q stop fails (Same i) le = quiet c h _ le tt
admitted_stays m c h host now q stop fails (Other i) le = quiet c h _ le tt
admitted_stays m c h host now q stop fails Full le = quiet c h _ le tt
admitted_stays m c h host now q stop true New le = quiet c h _ le tt
admitted_stays m c h host now q stop false New le = accepted_stays m c h host now q stop le

served_or_stays : (m : Machine) (c : Common) (h : Host) (host clock : ℕ) (stop : Stop) (fails : Bool) (r : Result Request Refusal) → h.known ≤ newest c →
    ErrIs (λ x. x.known.0 ≤ newest c) r → Stays c (served_or m c h host clock stop fails r)
served_or_stays m c h host clock stop fails (Err refused) le knows = record { views = refl; known = knows; sent = tt }
served_or_stays m c h host clock stop fails (Ok q) le knows =
    let ran = with_ran (length c.journal) c in
    let now = max clock c.time in
    let is = admitted_stays m ran (caught_up c h) host now q stop fails (admission c.journal now q) le in
    record { views = is.views; known = is.known; sent = is.sent }

unless_bad_stays : (bad : Option ℕ) (c : Common) (h : Host) (t : Turn) → h.known ≤ newest c → Stays c t → Stays c (unless_bad bad c h t)
unless_bad_stays None c h t le stays = stays
unless_bad_stays (Some id) c h t le stays = quiet c h _ le tt

request_stays : (m : Machine) (c : Common) (h : Host) (host clock : ℕ) (asked : Asked) (stop : Stop) (fails : Bool) → h.known ≤ newest c →
    Stays c (on_request m c h host clock asked stop fails)
request_stays m c h host clock asked stop fails le =
    let known = known_then (newest c) h.known asked.version in
    let h' : Host = record h { known = known } in
    let le' = (if_known (looks_up h.known asked.version) h.known (newest c) le).1 in
    unless_bad_stays asked.bad_context c h (served_or m c h' host clock stop fails (request_in m c host known asked)) le
    (served_or_stays m c h' host clock stop fails (request_in m c host known asked) le'
    (request_is (λ x. x.known.0 ≤ newest c) m c host known asked (λ d a e t. le') (λ d a e t. omega arith)))

written_stays : (m : Machine) (c : Common) (h : Host) (host clock : ℕ) (fails : Bool) → h.known ≤ newest c → Stays c (checkpoint_written m c h host clock fails)
written_stays m c h host clock true le = quiet c h _ le tt
written_stays m c h host clock false le =
    let n = h.place.position in record {
      views = refl;
      known = le;
      sent = either (AllHad c) (is_warm c.style) (to_others c host (inners.State n (state_at m c n))) []
          (all_hear c (inners.State n (state_at m c n)) (without host (newest_view c).members) (λ to. tt)) tt;
    }

checkpoint_stays : (m : Machine) (c : Common) (h : Host) (host clock : ℕ) (fails : Bool) → Stays c (on_checkpoint m c h host clock fails)
checkpoint_stays m c h host clock fails =
    let is = written_stays m (with_ran (length c.journal) c) (taking c h) host clock fails (omega arith) in
    record { views = is.views; known = is.known; sent = is.sent }

update_sent_stays : (m : Machine) (c : Common) (h : Host) (host : ℕ) → Stays c (on_send_update m c h host)
update_sent_stays m c h host =
    let ran = with_ran (length c.journal) c in
    let base = (taking c h).place.base in
    let n = (taking c h).place.position in record {
      views = refl;
      known = omega arith;
      sent = all_hear c (inners.Update base n (delta_at m ran base n)) (without host (newest_view c).members) (λ to. tt);
    }

one_of_three : (c : Common) (b d : Bool) (x y z : Turn) → Stays c x → Stays c y → Stays c z → Stays c (if b then x else (if d then y else z))
one_of_three c b d x y z p q r = either (Stays c) b x (if d then y else z) p (either (Stays c) d y z q r)

state_stays : (c : Common) (h : Host) (n : ℕ) → h.known ≤ newest c → Stays c (on_state c h n)
state_stays c h n le =
    one_of_three c (not h.place.loaded) (nat_lt h.place.position n) (brought_to n c h) (brought_to n c h) (ignoring c h (causes.Position n h.place.position))
    (quiet c _ _ le tt) (quiet c _ _ le tt) (quiet c _ _ le tt)

update_stays : (c : Common) (h : Host) (n to : ℕ) → h.known ≤ newest c → Stays c (on_update c h n to)
update_stays c h n to le =
    one_of_three c (not h.place.loaded) (nat_eq h.place.position n) (ignoring c h causes.NotLoaded) (brought_to to c h) (ignoring c h (causes.From n h.place.position))
    (quiet c _ _ le tt) (quiet c _ _ le tt) (quiet c _ _ le tt)

ordered_stays : (c : Common) (h : Host) (n : ℕ) → h.known ≤ newest c → Stays c (ordered c h n)
ordered_stays c h n le = record {
  views = refl;
  known = le;
  sent = either (λ (a : GroupAnswer). AllHad c (sent_by a)) (nat_lt h.place.position n) (Applied n) (Held h.place.position) tt tt;
}

order_stays : (c : Common) (h : Host) (i : ℕ) → h.known ≤ newest c → Stays c (on_order c h i)
order_stays c h i le =
    let n = reach (holding h i).holdback h.place.position in
    one_of_three c (not h.place.loaded) (nat_lt i h.place.position) (ignoring c h causes.NotLoaded) (ignoring c h (causes.Order i h.place.position)) (ordered c (holding h i) n)
    (quiet c _ _ le tt) (quiet c _ _ le tt) (ordered_stays c (holding h i) n le)

view_stays : (c : Common) (h : Host) (sent : ℕ) → h.known ≤ newest c → sent ≤ newest c → Stays c (on_view c h sent)
view_stays c h sent le had =
    either (Stays c) (nat_lt h.known sent) (unchanged c (record h { known = sent }) (Known (version sent))) (ignoring c h (causes.Known (version sent) (version h.known)))
    (quiet c _ _ had tt) (quiet c _ _ le tt)

-- ---- any turn

-- the views only grow, the host knows no version past them, and what it sends tells of none
record Knows (c : Common) (t : Turn) : Type 0 where
  more : newest c ≤ newest t.common
  last : (newest_view t.common).version.0 ≤ newest t.common
  known : t.host.known ≤ newest t.common
  sent : AllHad t.common (sent_by t.answer)

had_alike : (c d : Common) (out : List Out) → newest c ≤ newest d → AllHad c out → AllHad d out
had_alike c d [] le all = tt
had_alike c d (o ∷ out) le all = (one o.carried all.0, had_alike c d out le all.1)
  where
    one : (carried : Inner) → IsHad c (brought (record { to = o.to; carried = carried })) → IsHad d (brought (record { to = o.to; carried = carried }))
    one (inners.View sent) had = omega (arith, had, le)
    one (inners.State n state) had = tt
    one (inners.Update from until update) had = tt
    one (inners.Order i request) had = tt

pushed_there : (views : List View) (view : View) → slice_index_or (views ++ view ∷ []) (length views) no_view ≡ view
pushed_there [] view = refl
pushed_there (v ∷ views) view = pushed_there views view

pushed_last : (views : List View) (view : View) → view_at (views ++ view ∷ []) (length (views ++ view ∷ [])) ≡ view
pushed_last views view =
    let long : length (views ++ view ∷ []) - 1 ≡ length views = omega (arith, length-append views (view ∷ [])) in
    ap (λ (n : ℕ). slice_index_or (views ++ view ∷ []) n no_view) long ∙ pushed_there views view

module _ (c : Common) (last : (newest_view c).version.0 ≤ newest c) where
  stays_knows : (t : Turn) → Stays c t → Knows c t
  stays_knows t stays =
      let long : length t.common.views ≡ length c.views = ap length stays.views in
      record {
        more = omega (arith, long);
        last = subst (λ (views : List View). (view_at views (length views)).version.0 ≤ length views) (sym stays.views) last;
        known = let le = stays.known in omega (arith, long, le);
        sent = had_alike c t.common (sent_by t.answer) (omega (arith, long)) stays.sent;
      }

  if_up_knows : (h : Host) (t : Turn) → h.known ≤ newest c → Stays c t → Knows c (if_up c h t)
  if_up_knows h t le stays = stays_knows (if_up c h t) (either (Stays c) h.up t (unchanged c h Down) stays (quiet c h _ le tt))

  changed_knows : (h : Host) (change : Change) (fails : Bool) (r : Option ManageFault) → h.known ≤ newest c → Knows c (changed_or c h change fails r)
  changed_knows h change fails (Some fault) le = stays_knows _ (quiet c h _ le tt)
  changed_knows h change true None le = stays_knows _ (quiet c h _ le tt)
  changed_knows h change false None le =
      let old = newest_view c in
      let new = next_view c.style old change in
      let d = with_view c new in
      let long : length (c.views ++ new ∷ []) ≡ length c.views + 1 = length-append c.views (new ∷ []) in
      let told : Inner = inners.View new.version in
      let may : MayHear d told = λ to. omega (arith, last, long) in
      record {
        more = omega (arith, long);
        last = subst (λ (v : View). v.version.0 ≤ newest d) (sym (pushed_last c.views new)) (omega (arith, last, long));
        known = omega (arith, le, long);
        sent = both_had d (sent_to old.members told) (sent_to (filter (λ m. not (is_member m old.members)) new.members) told)
            (all_hear d told old.members may) (all_hear d told (filter (λ m. not (is_member m old.members)) new.members) may);
      }

  turn_knows : (m : Machine) (h : Host) (e : Event) (fails : Bool) → h.known ≤ newest c → IsHad c e → Knows c (turn m c h e fails)
  turn_knows m h (events.Request host clock asked stop) fails le had = if_up_knows h _ le (request_stays m c h host.0 clock.0 asked stop fails le)
  turn_knows m h (events.View host sent) fails le had = if_up_knows h _ le (view_stays c h sent.0 le had)
  turn_knows m h (events.State host n state) fails le had = if_up_knows h _ le (state_stays c h n le)
  turn_knows m h (events.Update host from to update) fails le had = if_up_knows h _ le (update_stays c h from to le)
  turn_knows m h (events.Order host i request) fails le had = if_up_knows h _ le (order_stays c h i le)
  turn_knows m h (events.Checkpoint host clock) fails le had = if_up_knows h _ le (checkpoint_stays m c h host.0 clock.0 fails)
  turn_knows m h (events.SendUpdate host) fails le had = if_up_knows h _ le (update_sent_stays m c h host.0)
  turn_knows m h (events.Manage change) fails le had = changed_knows h change fails (first_fault (change_rows c.style (newest_view c) change)) le
  turn_knows m h (events.Crash host) fails le had = stays_knows _ (record { views = refl; known = omega arith; sent = tt })
  turn_knows m h (events.Restart host) fails le had = stays_knows _ (record { views = refl; known = le; sent = tt })

pub only_views_known : (m : Machine) (g : Group) (e : Event) (fails : Bool) → KnowsItsViews g → IsHad g.common e → KnowsItsViews (after_event m g e fails)
only_views_known m g e fails is had =
    let at = host_of e in
    let t = turn_of m g e fails in
    let knows = turn_knows g.common is.last m (g.hosts at) e fails (is.known at) had in
    let more = knows.more in
    record {
      last = knows.last;
      known = λ i.
          let before = is.known i in
          either (λ (h : Host). h.known ≤ newest t.common) (nat_eq i at) t.host (g.hosts i) knows.known (omega (arith, before, more));
    }

pub only_views_sent : (m : Machine) (g : Group) (e : Event) (fails : Bool) → KnowsItsViews g → IsHad g.common e →
    AllByRecursion (λ out. IsHad (after_event m g e fails).common (brought out)) (sent_by (turn_of m g e fails).answer)
only_views_sent m g e fails is had = (turn_knows g.common is.last m (g.hosts (host_of e)) e fails (is.known (host_of e)) had).sent
