-- A core over a keeper of which it is told whether its next write fails, and that no later one does.
use Rattle.std.proofs.Common.{◌≡◌, ℕ, ◌+◌, ◌≤◌, ◌⊎◌, inl, inr, Bool, true, false, List, [], length, Option, Some, None, refl, sym, subst, ap, ◌∙◌}
use Rattle.std.specs.Prelude.{◌&&◌, not, if◌then◌else◌, max, Result, Ok, Err}
use Rattle.ft_base.specs.Admissions.{admission}
use Rattle.ft_base.specs.Machine.{Machine}
use Rattle.ft_base.specs.declared.admissions.Admission.{Admission}
use Rattle.ft_base.specs.declared.admissions.Admission.TheVariants.{Expired, Same, Other, Full, New}
use Rattle.ft_base.specs.declared.decisions.Decision.{Decision}
use Rattle.ft_base.specs.declared.decisions.Decision.TheVariants as decisions
use Rattle.ft_base.specs.declared.decisions.Stop.{Stop}
use Rattle.ft_base.specs.declared.decisions.Stop.TheVariants.{Never, AfterAppend, AfterExecute}
use Rattle.ft_base.specs.declared.requests.Request.{Request}
use Rattle.ft_outside.specs.Keeping.{plan_after, IsForetold}
use Rattle.sys_faults.specs.declared.answers.Answer.{Answer}
use Rattle.message_log.specs.Calls.{IsTidied}
use Rattle.message_log.specs.Picture.{Picture as LogPicture, KeeperPicture, keeper_of}
use Rattle.message_log.specs.declared.tidying.Tidied.{Tidied}
use Rattle.message_log.specs.declared.tidying.Tidied.TheVariants.{Cut, Uncut, Unwritten}
use Rattle.group_model.specs.declared.changes.Change.{Change}
use Rattle.group_model.specs.declared.changes.ManageFault.{ManageFault}
use Rattle.group_model.specs.declared.changes.ManageFault.TheVariants as manage_faults
use Rattle.group_model.specs.declared.events.Event.{Event}
use Rattle.group_model.specs.declared.events.Event.TheVariants as events
use Rattle.group_model.specs.declared.events.GroupAnswer.{GroupAnswer}
use Rattle.group_model.specs.declared.events.GroupAnswer.TheVariants as answers
use Rattle.group_model.specs.declared.events.Out.{Out}
use Rattle.group_model.specs.declared.refusals.Refusal.{Refusal}
use Rattle.group_model.specs.Changes.{change_rows, changed_or, first_fault, host_of_change}
use Rattle.group_model.specs.Decisions.{known_then, request_in}
use Rattle.group_model.specs.Events.{if_up, shows_fault, turn_of}
use Rattle.group_model.specs.Plain.{Common, Host, Group, caught_up, with_ran}
use Rattle.group_model.specs.Serving.{accepted, admitted, asked_at, calls_behind, on_request, served, served_or, unless_bad}
use Rattle.group_model.specs.Transfers.{checkpoint_written, on_checkpoint, taking}
use Rattle.group_model.specs.Turns.{Turn, costing, unchanged}
use Rattle.group_model.specs.Views.{newest, newest_view}
use Rattle.group_stands.specs.Telling.{LogsTell}
use Rattle.group_hosts.specs.Keeping.{WroteNothing, Wrote, FailedToWrite, WroteCheckpoint, WroteBy, WroteRefused, WroteTaken, WroteFor}
use Rattle.group_core.specs.Telling.{plan_of_next, TurnsAreAsForetold, ShortCallsAreAsForetold, WroteLeft}
use Rattle.group_core.proofs.Tells.{memory_told}

-- ---- a turn that isn't the same whether the log's write fails or not is one that writes

abbrev Appends : Decision → Type 0
Appends (decisions.Append i) = Unit {0}
Appends other = ⊥

abbrev IsCheckpoint : Event → Type 0
IsCheckpoint (events.Checkpoint host clock) = Unit {0}
IsCheckpoint other = ⊥

-- the answer tells of a write
abbrev Writes : Event → GroupAnswer → Type 0
Writes e (answers.Reply decision answer out) = Appends decision
Writes e (answers.Changed view out) = Unit {0}
Writes e (answers.Taken from position out) = IsCheckpoint e
Writes e other = ⊥

abbrev IsSameOrWrites : Event → (Bool → Turn) → Type 0
IsSameOrWrites e t = (t true ≡ t false) ⊎ Writes e (t false).answer

module _ (e : Event) where
  up_writes : (c : Common) (h : Host) (t : Bool → Turn) → IsSameOrWrites e t → IsSameOrWrites e (λ fails. if_up c h (t fails))
  up_writes c h t is = go h.up where
    go : (b : Bool) → IsSameOrWrites e (λ fails. if b then t fails else unchanged c h answers.Down)
    go true = is
    go false = inl refl

  costing_writes : (n : ℕ) (t : Bool → Turn) → IsSameOrWrites e t → IsSameOrWrites e (λ fails. costing n (t fails))
  costing_writes n t (inl same) = inl (ap (costing n) same)
  costing_writes n t (inr writes) = inr writes

  good_writes : (bad : Option ℕ) (c : Common) (h : Host) (t : Bool → Turn) → IsSameOrWrites e t → IsSameOrWrites e (λ fails. unless_bad bad c h (t fails))
  good_writes None c h t is = is
  good_writes (Some id) c h t is = inl refl

  module _ (m : Machine) (c : Common) (h : Host) (host : ℕ) (stop : Stop) where
    accepted_writes : (now : ℕ) (q : Request) (x : Stop) → Writes e (accepted m c h host now q x).answer
    accepted_writes now q Never = tt
    accepted_writes now q AfterAppend = tt
    accepted_writes now q AfterExecute = tt

    admitted_writes : (now : ℕ) (q : Request) (a : Admission) → IsSameOrWrites e (λ fails. admitted m c h host now q stop fails a)
    admitted_writes now q (Expired expiration) = inl refl
    admitted_writes now q (Same i) = inl refl
    admitted_writes now q (Other i) = inl refl
    admitted_writes now q Full = inl refl
    admitted_writes now q New = inr (accepted_writes now q stop)

  asked_writes : (m : Machine) (c : Common) (h : Host) (host clock : ℕ) (stop : Stop) (r : Result Request Refusal) → IsSameOrWrites e (λ fails. served_or m c h host clock stop fails r)
  asked_writes m c h host clock stop (Err refused) = inl refl
  asked_writes m c h host clock stop (Ok q) =
      let d = with_ran (length c.journal) c in
      costing_writes (calls_behind c h) (λ fails. served m d (caught_up c h) host clock q stop fails)
      (admitted_writes m d (caught_up c h) host stop (max clock d.time) q (admission d.journal (max clock d.time) q))

  changed_writes : (c : Common) (h : Host) (change : Change) (o : Option ManageFault) → IsSameOrWrites e (λ fails. changed_or c h change fails o)
  changed_writes c h change (Some fault) = inl refl
  changed_writes c h change None = inr tt

same_or_writes : (m : Machine) (g : Group) (e : Event) → IsSameOrWrites e (turn_of m g e)
same_or_writes m g (events.Request host clock asked stop) =
    let e = events.Request host clock asked stop in
    let c = g.common in
    let h = g.hosts host.0 in
    let h' : Host = record h { known = known_then (newest c) h.known asked.version } in
    up_writes e c h (λ fails. on_request m c h host.0 clock.0 asked stop fails)
    (good_writes e asked.bad_context c h (λ fails. asked_at m c h' host.0 clock.0 asked stop fails)
    (asked_writes e m c h' host.0 clock.0 stop (request_in m c host.0 h'.known asked)))
same_or_writes m g (events.View host sent) = inl refl
same_or_writes m g (events.State host position state) = inl refl
same_or_writes m g (events.Update host begin end update) = inl refl
same_or_writes m g (events.Order host index request) = inl refl
same_or_writes m g (events.Crash host) = inl refl
same_or_writes m g (events.Restart host) = inl refl
same_or_writes m g (events.Checkpoint host clock) =
    let e = events.Checkpoint host clock in
    let c = g.common in
    let h = g.hosts host.0 in
    let d = with_ran (length c.journal) c in
    up_writes e c h (λ fails. on_checkpoint m c h host.0 clock.0 fails)
    (costing_writes e (calls_behind c h) (λ fails. checkpoint_written m d (taking c h) host.0 clock.0 fails) (inr tt))
same_or_writes m g (events.SendUpdate host) = inl refl
same_or_writes m g (events.Manage change) =
    let c = g.common in
    changed_writes (events.Manage change) c (g.hosts (host_of_change change).0) change (first_fault (change_rows c.style (newest_view c) change))

-- ---- what the keeper tells of an event

after_next : (fails : Bool) → plan_after (plan_of_next fails) ≡ Some []
after_next true = refl
after_next false = refl

-- a failure that no answer shows is still to come, and one that is shown isn't
still : (fails shown : Bool) → shown ≡ false → (fails && not shown) ≡ fails
still true shown e = ap not e
still false shown e = refl

spent : (fails shown : Bool) → shown ≡ true → (fails && not shown) ≡ false
spent true shown e = ap not e
spent false shown e = refl

-- a checkpoint is written, and whatever is tidied behind it
tidied : (how : Tidied) (before : KeeperPicture) (written viewed : List ℕ) (later : KeeperPicture) →
    before.plan ≡ Some [] → IsTidied how before written viewed later → later.plan ≡ Some []
tidied Cut before written viewed later is was = was.3 ∙ ap (λ (p : Option (List Bool)). plan_after (plan_after p)) is
tidied Uncut before written viewed later is was = was.3 ∙ ap (λ (p : Option (List Bool)). plan_after (plan_after p)) is
tidied Unwritten before written viewed later is was = was.2 ∙ ap plan_after is

-- a write that was to fail, and only such, is shown to have failed
record Keeps (fails : Bool) (e : Event) (answer : GroupAnswer) (new : LogPicture) : Type 0 where
  shown : shows_fault answer ≡ true → fails ≡ true
  writes : Writes e answer → fails ≡ false
  plan : new.plan ≡ plan_of_next (fails && not (shows_fault answer))

module _ (old new : LogPicture) (fails : Bool) (plan : old.plan ≡ plan_of_next fails) where
  foretold : (failed : Bool) → IsForetold old.plan failed → failed ≡ fails
  foretold failed is = go fails (subst (λ (p : Option (List Bool)). IsForetold p failed) plan is) where
    go : (b : Bool) → IsForetold (plan_of_next b) failed → failed ≡ b
    go true e = e
    go false e = e

  emptied : new.plan ≡ plan_after old.plan → new.plan ≡ Some []
  emptied is = is ∙ ap plan_after plan ∙ after_next fails

  unmoved : (e : Event) (answer : GroupAnswer) → shows_fault answer ≡ false → (Writes e answer → ⊥) → WroteNothing old new → Keeps fails e answer new
  unmoved e answer unshown none wrote = record {
    shown = λ shows. absurd (let no : true ≡ false = sym shows ∙ unshown in cc);
    writes = λ writes. absurd (none writes);
    plan = wrote.0 ∙ plan ∙ ap plan_of_next (sym (still fails (shows_fault answer) unshown));
  }

  done : (e : Event) (answer : GroupAnswer) → shows_fault answer ≡ false → fails ≡ false → new.plan ≡ Some [] → Keeps fails e answer new
  done e answer unshown spared empty = record {
    shown = λ shows. absurd (let no : true ≡ false = sym shows ∙ unshown in cc);
    writes = λ writes. spared;
    plan = empty ∙ ap (λ (b : Bool). plan_of_next (b && not (shows_fault answer))) (sym spared);
  }

  written : (e : Event) (answer : GroupAnswer) → shows_fault answer ≡ false → Wrote old new → Keeps fails e answer new
  written e answer unshown wrote = done e answer unshown (sym (foretold false wrote.foretold)) (emptied wrote.plan)

  failed : (e : Event) (answer : GroupAnswer) → shows_fault answer ≡ true → (Writes e answer → ⊥) → FailedToWrite old new → Keeps fails e answer new
  failed e answer shows none wrote = record {
    shown = λ again. sym (foretold true wrote.foretold);
    writes = λ writes. absurd (none writes);
    plan = emptied wrote.plan ∙ ap plan_of_next (sym (spent fails (shows_fault answer) shows));
  }

  decided : (e : Event) (decision : Decision) (answer : Option Answer) (out : List Out) → WroteBy decision old new → Keeps fails e (answers.Reply decision answer out) new
  decided e (decisions.Append i) answer out wrote = written e (answers.Reply (decisions.Append i) answer out) refl wrote
  decided e decisions.LogFault answer out wrote = failed e (answers.Reply decisions.LogFault answer out) refl (λ no. no) wrote
  decided e decision answer out wrote = unmoved e (answers.Reply decision answer out) refl (λ no. no) wrote

  refused : (e : Event) (fault : ManageFault) → WroteRefused fault old new → Keeps fails e (answers.Refused fault) new
  refused e manage_faults.LogFault wrote = failed e (answers.Refused manage_faults.LogFault) refl (λ no. no) wrote
  refused e fault wrote = unmoved e (answers.Refused fault) refl (λ no. no) wrote

  checkpointed : (e : Event) (answer : GroupAnswer) → shows_fault answer ≡ false → WroteCheckpoint old new → Keeps fails e answer new
  checkpointed e answer unshown wrote =
      done e answer unshown (sym (foretold false wrote.foretold))
      (tidied wrote.how (record (keeper_of old) { plan = plan_after old.plan }) wrote.checkpoint wrote.view (keeper_of new) (ap plan_after plan ∙ after_next fails) wrote.tidied)

  taken : (e : Event) (base position : ℕ) (out : List Out) → WroteTaken e old new → Keeps fails e (answers.Taken base position out) new
  taken (events.Checkpoint host clock) base position out wrote = checkpointed (events.Checkpoint host clock) (answers.Taken base position out) refl wrote
  taken e base position out wrote = unmoved e (answers.Taken base position out) refl (λ no. no) wrote

  kept : (e : Event) (answer : GroupAnswer) → WroteFor e answer old new → Keeps fails e answer new
  kept e (answers.Reply decision answer out) wrote = decided e decision answer out wrote
  kept e (answers.Changed view out) wrote = written e (answers.Changed view out) refl wrote
  kept e (answers.Refused fault) wrote = refused e fault wrote
  kept e (answers.Taken base position out) wrote = taken e base position out wrote
  kept e answers.LogFault wrote = failed e answers.LogFault refl (λ no. no) wrote
  kept e answers.NoMemory (inl wrote) = unmoved e answers.NoMemory refl (λ no. no) wrote.0
  kept e answers.NoMemory (inr wrote) = written e answers.NoMemory refl wrote.0
  kept e answer wrote = unmoved e answer refl (λ no. no) wrote

-- ---- the turn that was foretold

module _ (m : Machine) (g : Group) (e : Event) (answer : GroupAnswer) where
  turns_agree : (shown fails : Bool) → (shown ≡ true → fails ≡ true) → (shown ≡ false → fails ≡ true → turn_of m g e true ≡ turn_of m g e false) →
      turn_of m g e shown ≡ turn_of m g e fails
  turns_agree true true shows same = refl
  turns_agree true false shows same = absurd (let no : false ≡ true = shows refl in cc)
  turns_agree false true shows same = sym (same refl refl)
  turns_agree false false shows same = refl

  none_written : (fails : Bool) (new : LogPicture) → (turn_of m g e (shows_fault answer)).answer ≡ answer → Keeps fails e answer new → shows_fault answer ≡ false → fails ≡ true →
      IsSameOrWrites e (turn_of m g e) → turn_of m g e true ≡ turn_of m g e false
  none_written fails new told keeps unshown to_fail (inl same) = same
  none_written fails new told keeps unshown to_fail (inr writes) =
      let is : (turn_of m g e false).answer ≡ answer = subst (λ (b : Bool). (turn_of m g e b).answer ≡ answer) unshown told in
      absurd (let no : true ≡ false = sym to_fail ∙ keeps.writes (subst (Writes e) is writes) in cc)

pub as_foretold : TurnsAreAsForetold
as_foretold m g e answer fails old new told wrote plan =
    let keeps = kept old new fails plan e answer wrote in
    record {
      turn = turns_agree m g e answer (shows_fault answer) fails keeps.shown
          (λ unshown to_fail. none_written m g e answer fails new told keeps unshown to_fail (same_or_writes m g e));
      plan = keeps.plan;
    }

-- where memory was wanted, a write that was to fail wasn't tried
pub short_as_foretold : LogsTell → ShortCallsAreAsForetold
short_as_foretold tell machines core later g e fails before now stands short wrote plan = go fails plan where
  m : Machine
  m = machines g.common.kind

  untried : core.log.plan ≡ plan_of_next true → WroteLeft machines g e short.left core.log later.log → now ≤ before + (turn_of m g e true).calls
  untried is (inl nothing) = short.unwritten nothing.1
  untried is (inr one) = absurd (let no : false ≡ true = foretold core.log later.log true is false one.0.foretold in cc)

  go : (b : Bool) → core.log.plan ≡ plan_of_next b → now ≤ before + (turn_of m g e b).calls
  go false is = short.calls
  go true is = untried is (memory_told tell machines core later g short.left e stands short.stands short.lean wrote)
