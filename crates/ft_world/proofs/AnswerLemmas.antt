-- What each event is answered.
use Rattle.std.proofs.Common.{◌≡◌, ℕ, max, Bool, true, false, List, length, Option, Some, None, Result, Ok, Err, refl, subst}
use Rattle.std.specs.Prelude.{if◌then◌else◌, not, nat_lt, nat_eq}
use Rattle.ft_base.specs.Admissions.{admission}
use Rattle.ft_base.specs.Machine.{Machine}
use Rattle.ft_base.specs.declared.admissions.Admission.{Admission}
use Rattle.ft_base.specs.declared.admissions.Admission.TheVariants.{Expired, Same, Other, Full, New}
use Rattle.ft_base.specs.declared.decisions.Stop.{Stop}
use Rattle.ft_base.specs.declared.decisions.Stop.TheVariants.{Never, AfterAppend, AfterExecute}
use Rattle.ft_base.specs.declared.numbers.HostNo.{HostNo}
use Rattle.ft_base.specs.declared.numbers.Tick.{Tick}
use Rattle.ft_base.specs.declared.numbers.Version.{Version}
use Rattle.ft_base.specs.declared.requests.Request.{Request}
use Rattle.group_model.specs.Changes.{change_rows, changed_or, first_fault, host_of_change}
use Rattle.group_model.specs.Decisions.{known_then, request_in}
use Rattle.group_model.specs.Events.{if_up}
use Rattle.group_model.specs.Plain.{Common, Host, caught_up, reach, with_ran}
use Rattle.group_model.specs.Serving.{accepted, admitted, asked_at, on_request, served_or, unless_bad}
use Rattle.group_model.specs.Transfers.{holding, on_checkpoint, on_order, on_send_update, on_state, on_update, on_view, ordered}
use Rattle.group_model.specs.Turns.{Turn, unchanged}
use Rattle.group_model.specs.Views.{newest, newest_view}
use Rattle.group_model.specs.declared.asking.Asked.{Asked}
use Rattle.group_model.specs.declared.changes.Change.{Change}
use Rattle.group_model.specs.declared.changes.ManageFault.{ManageFault}
use Rattle.group_model.specs.declared.events.Event.{Event}
use Rattle.group_model.specs.declared.events.Event.TheVariants as events
use Rattle.group_model.specs.declared.events.GroupAnswer.{GroupAnswer}
use Rattle.group_model.specs.declared.events.GroupAnswer.TheVariants as answers
use Rattle.group_model.specs.declared.refusals.Refusal.{Refusal}
use Rattle.script_groups.specs.Groups.{common_of, group_of, is_failing, machine_of}
use Rattle.ft_world.specs.DeadArms.{AnswersFit, IsAnswerTo, IsSaid}

either_turn : (e : Event) (b : Bool) (t u : Turn) → IsAnswerTo e t.answer → IsAnswerTo e u.answer → IsAnswerTo e (if b then t else u).answer
either_turn e true t u a b = a
either_turn e false t u a b = b

either_answer : (e : Event) (b : Bool) (x y : GroupAnswer) → IsAnswerTo e x → IsAnswerTo e y → IsAnswerTo e (if b then x else y)
either_answer e true x y a b = a
either_answer e false x y a b = b

-- ---- a request

module _ (m : Machine) (host : HostNo) (clock : Tick) (asked : Asked) (stop : Stop) (fails : Bool) where
  abbrev Fits : Turn → Type 0
  Fits t = IsAnswerTo (events.Request host clock asked stop) t.answer

  accepted_fits : (c : Common) (h : Host) (now : ℕ) (request : Request) (to : Stop) → to ≡ stop → Fits (accepted m c h host.0 now request to)
  accepted_fits c h now request Never is = tt
  accepted_fits c h now request AfterAppend is = subst (IsSaid None) is tt
  accepted_fits c h now request AfterExecute is = subst (IsSaid None) is tt

  admitted_fits : (c : Common) (h : Host) (now : ℕ) (request : Request) (a : Admission) → Fits (admitted m c h host.0 now request stop fails a)
  admitted_fits c h now request (Expired expiration) = tt
  admitted_fits c h now request (Same i) = tt
  admitted_fits c h now request (Other i) = tt
  admitted_fits c h now request Full = tt
  admitted_fits c h now request New =
      either_turn (events.Request host clock asked stop) fails _ (accepted m c h host.0 now request stop) tt (accepted_fits c h now request stop refl)

  served_fits : (c : Common) (h : Host) (r : Result Request Refusal) → Fits (served_or m c h host.0 clock.0 stop fails r)
  served_fits c h (Err refused) = tt
  served_fits c h (Ok request) =
      let now = max clock.0 c.time in
      admitted_fits (with_ran (length c.journal) c) (caught_up c h) now request (admission c.journal now request)

  unless_bad_fits : (bad : Option ℕ) (c : Common) (h : Host) (t : Turn) → Fits t → Fits (unless_bad bad c h t)
  unless_bad_fits None c h t fits = fits
  unless_bad_fits (Some id) c h t fits = tt

  request_fits : (c : Common) (h : Host) → Fits (on_request m c h host.0 clock.0 asked stop fails)
  request_fits c h =
      let knows : Host = record h { known = known_then (newest c) h.known asked.version } in
      unless_bad_fits asked.bad_context c h (asked_at m c knows host.0 clock.0 asked stop fails)
      (served_fits c knows (request_in m c host.0 knows.known asked))

-- ---- what other hosts send

view_fits : (c : Common) (h : Host) (host : HostNo) (sent : Version) → IsAnswerTo (events.View host sent) (on_view c h sent.0).answer
view_fits c h host sent = either_turn (events.View host sent) (nat_lt h.known sent.0) _ _ tt tt

state_fits : (c : Common) (h : Host) (host : HostNo) (n : ℕ) (state : List ℕ) → IsAnswerTo (events.State host n state) (on_state c h n).answer
state_fits c h host n state =
    let e : Event = events.State host n state in
    either_turn e (not h.place.loaded) _ _ tt (either_turn e (nat_lt h.place.position n) _ _ tt tt)

update_fits : (c : Common) (h : Host) (host : HostNo) (n to : ℕ) (update : List ℕ) → IsAnswerTo (events.Update host n to update) (on_update c h n to).answer
update_fits c h host n to update =
    let e : Event = events.Update host n to update in
    either_turn e (not h.place.loaded) _ _ tt (either_turn e (nat_eq h.place.position n) _ _ tt tt)

order_fits : (c : Common) (h : Host) (host : HostNo) (i : ℕ) (request : Request) → IsAnswerTo (events.Order host i request) (on_order c h i).answer
order_fits c h host i request =
    let e : Event = events.Order host i request in
    let n : ℕ = reach (holding h i).holdback h.place.position in
    either_turn e (not h.place.loaded) _ _ tt
    (either_turn e (nat_lt i h.place.position) _ (ordered c (holding h i) n) tt
    (either_answer e (nat_lt (holding h i).place.position n) (answers.Applied n) (answers.Held (holding h i).place.position) tt tt))

-- ---- a change of members

change_fits : (c : Common) (h : Host) (change : Change) (fails : Bool) (o : Option ManageFault) → IsAnswerTo (events.Manage change) (changed_or c h change fails o).answer
change_fits c h change fails None = either_turn (events.Manage change) fails _ _ tt tt
change_fits c h change fails (Some fault) = tt

-- ---- each event

-- a host that is down loses what comes to it
if_up_fits : (e : Event) (c : Common) (h : Host) (t : Turn) → IsAnswerTo e t.answer → IsAnswerTo e answers.Down → IsAnswerTo e (if_up c h t).answer
if_up_fits e c h t fits lost = either_turn e h.up t (unchanged c h answers.Down) fits lost

pub answers_fit : AnswersFit
answers_fit g (events.Request host clock asked stop) =
    let c : Common = common_of g in
    let h : Host = (group_of g).hosts host.0 in
    if_up_fits (events.Request host clock asked stop) c h (on_request (machine_of g) c h host.0 clock.0 asked stop (is_failing g))
    (request_fits (machine_of g) host clock asked stop (is_failing g) c h) tt
answers_fit g (events.View host sent) =
    let c : Common = common_of g in
    let h : Host = (group_of g).hosts host.0 in
    if_up_fits (events.View host sent) c h (on_view c h sent.0) (view_fits c h host sent) tt
answers_fit g (events.State host n state) =
    let c : Common = common_of g in
    let h : Host = (group_of g).hosts host.0 in
    if_up_fits (events.State host n state) c h (on_state c h n) (state_fits c h host n state) tt
answers_fit g (events.Update host from to update) =
    let c : Common = common_of g in
    let h : Host = (group_of g).hosts host.0 in
    if_up_fits (events.Update host from to update) c h (on_update c h from to) (update_fits c h host from to update) tt
answers_fit g (events.Order host i request) =
    let c : Common = common_of g in
    let h : Host = (group_of g).hosts host.0 in
    if_up_fits (events.Order host i request) c h (on_order c h i) (order_fits c h host i request) tt
answers_fit g (events.Crash host) = tt
answers_fit g (events.Restart host) = tt
answers_fit g (events.Checkpoint host clock) =
    let c : Common = common_of g in
    let h : Host = (group_of g).hosts host.0 in
    if_up_fits (events.Checkpoint host clock) c h (on_checkpoint (machine_of g) c h host.0 clock.0 (is_failing g))
    (either_turn (events.Checkpoint host clock) (is_failing g) _ _ tt tt) tt
answers_fit g (events.SendUpdate host) =
    let c : Common = common_of g in
    let h : Host = (group_of g).hosts host.0 in
    if_up_fits (events.SendUpdate host) c h (on_send_update (machine_of g) c h host.0) tt tt
answers_fit g (events.Manage change) =
    let c : Common = common_of g in
    change_fits c ((group_of g).hosts (host_of_change change).0) change (is_failing g) (first_fault (change_rows c.style (newest_view c) change))
