-- A host catches up and serves a request.
use Rattle.std.proofs.Common.{◌≡◌, ℕ, ◌+◌, inl, inr, ◌⊎◌, max, Bool, true, false, List, [], length, refl, sym, subst, ap, ◌∙◌, arith}
use Rattle.ft_base.specs.Machine.{Machine}
use Rattle.ft_base.specs.declared.decisions.Decision.{Decision}
use Rattle.ft_base.specs.declared.decisions.Decision.TheVariants as decisions
use Rattle.ft_base.specs.declared.decisions.Stop.{Stop}
use Rattle.ft_base.specs.declared.requests.Request.{Request}
use Rattle.ft_base.specs.declared.views.Style.{Style}
use Rattle.message_log.specs.Picture.{Picture as LogPicture}
use Rattle.ft_replica.specs.Picture.{Picture as ReplicaPicture}
use Rattle.group_model.specs.Events.{is_log_fault}
use Rattle.group_model.specs.Plain.{Common, Host, nowhere, caught_up, caught_up_to, with_ran}
use Rattle.group_model.specs.Serving.{joined, calls_behind, served, served_caught_up}
use Rattle.group_stands.specs.Holding.{HeldOrder, HoldStands, orders_from, NothingIsHeld, HoldbacksGoOnRan, HoldbacksAreDropped, FurthestHoldNothing}
use Rattle.group_stands.specs.Stands.{LogStands, ReplicaStands}
use Rattle.group_stands.specs.Telling.{LogsTell}
use Rattle.failover_engine.specs.Catching as catching
use Rattle.passive_dispatch.specs.Served.{Seen, CanServe, shows_fault}
use Rattle.passive_dispatch.specs.Served as passive
use Rattle.active_sequencer.specs.Sequences.{IsSequenced}
use Rattle.passive_dispatch.specs.declared.serving.Replied.{Replied}
use Rattle.passive_dispatch.specs.declared.serving.Served.TheVariants as serves
use Rattle.group_hosts.specs.Asking.{Parts, parts, CanCatchUp, CanEnter, HasComeTo, HasStoppedAt, HasStopped, IsAnswered, IsEntered}
use Rattle.group_hosts.specs.declared.entering.Entered.TheVariants.{Done, Short, Unrun}
use Rattle.group_hosts.proofs.Holds.{all_to_come}
use Rattle.group_hosts.proofs.Shapes.{shaped, nothing_held}

-- ---- catching up

pub has_come : HoldbacksGoOnRan → HoldbacksAreDropped → (machines : ℕ → Machine) (c : Common) (h : Host) (kind : ℕ) (opening : List ℕ) (before now : Parts) (n at : ℕ) →
    CanCatchUp machines c h kind opening before → catching.HasRunTo machines c h now.log now.replica n → at ≡ now.replica.position → now.held ≡ orders_from at before.held →
    HasComeTo machines c h now n
has_come rans drops machines c h kind opening before now n at can run is held =
    let here : at ≡ n = is ∙ run.replica_stands.position in
    let ran = rans c h.place.position h.holdback before.held can.stand.held n in
    let dropped = drops c.journal (with_ran n c).ran h.place.position h.holdback before.held ran n in
    let same : now.held ≡ orders_from n before.held = held ∙ ap (λ (k : ℕ). orders_from k before.held) here in
    record {
      stand = record { log = run.log_stands; replica = run.replica_stands; held = subst (λ (l : List HeldOrder). HoldStands c.journal (with_ran n c).ran n (caught_up_to c h n).holdback l) (sym same) dropped };
      loaded = run.loaded;
      first = run.first;
      last = run.last;
    }

-- it made no call, or some of those that it lacked
pub has_stopped : HoldbacksGoOnRan → HoldbacksAreDropped → (machines : ℕ → Machine) (c : Common) (h : Host) (kind : ℕ) (opening : List ℕ) (before now : Parts) (at : ℕ) →
    CanCatchUp machines c h kind opening before → at ≡ now.replica.position → now.held ≡ orders_from at before.held →
    ((now.log ≡ before.log) × (now.replica ≡ before.replica) × (now.steps ≡ before.steps)) ⊎ catching.HasStopped machines c h now.log now.replica before.steps now.steps →
    HasStopped machines c h before now
has_stopped rans drops machines c h kind opening before now at can is held (inl same) =
    let here : at ≡ h.place.position = is ∙ ap (λ (r : ReplicaPicture). r.position) same.1 ∙ can.stand.replica.position in
    let kept : now.held ≡ before.held = held ∙ ap (λ (k : ℕ). orders_from k before.held) here ∙ all_to_come c.journal c.ran h.place.position before.held can.stand.held.each in
    inl (ap (λ (l : LogPicture). record now { log = l }) same.0
    ∙ ap (λ (r : ReplicaPicture). record now { log = before.log; replica = r }) same.1
    ∙ ap (λ (o : List HeldOrder). record now { log = before.log; replica = before.replica; held = o }) kept
    ∙ ap (λ (s : ℕ). parts before.log before.replica before.held s) same.2)
has_stopped rans drops machines c h kind opening before now at can is held (inr stopped) =
    let come = has_come rans drops machines c h kind opening before now stopped.position at can stopped.ran is held in
    inr (stopped.position, record { come = come; calls = omega (arith, stopped.calls, stopped.before_end, come.first) })

-- ---- both words for a decision that shows a failed write

same_fault : (decision : Decision) → shows_fault decision ≡ is_log_fault decision
same_fault decisions.LogFault = refl
same_fault decision = refl

-- ---- a host that has caught up may serve

module _ (machines : ℕ → Machine) (c : Common) (h : Host) (style : Style) (kind : ℕ) (opening : List ℕ) (request : Request) (before : Parts) (can : CanEnter machines c h style kind opening request before) where
  -- the group and the host then
  abbrev c1 : Common
  c1 = with_ran (length c.journal) c

  abbrev h1 : Host
  h1 = caught_up c h

  abbrev seen_of : Parts → Seen
  seen_of p = passive.seen p.log p.replica p.steps

  pub can_serve : LogsTell → (version : ℕ) (now : Parts) → version ≡ before.log.newest.version.0 → HasComeTo machines c h now (length c.journal) → CanServe machines c1 h1.place version request (seen_of now)
  can_serve tell version now is come = record {
    log = come.stand.log;
    replica = come.stand.replica;
    caught_up = record { loaded = come.loaded; end = refl };
    newest = is ∙ (tell machines c before.log can.catch_up.stand.log).version;
    fits = can.fits;
    short = can.short;
  }

  -- it holds nothing back any more
  furthest : FurthestHoldNothing → (now : Parts) → HasComeTo machines c h now (length c.journal) → (h1.holdback ≡ []) × (now.held ≡ [])
  furthest law now come =
      let ran = come.stand.log.sound.numbers.ran in
      law c.journal c1.ran (length c.journal) h1.holdback now.held come.stand.held (omega (arith, ran))

  pub answered : FurthestHoldNothing → NothingIsHeld → (host clock : ℕ) (stop : Stop) (replied : Replied) (middle now : Parts) →
      HasComeTo machines c h middle (length c.journal) → middle.steps ≡ before.steps + calls_behind c h → now.held ≡ middle.held →
      IsSequenced machines c1 h1 host clock request stop (serves.Done replied) (seen_of middle) (seen_of now) →
      IsEntered machines c h host clock request stop (Done replied) before now
  answered furthest_law nothing host clock stop replied middle now come counted held is =
      let decision = replied.decision in
      let none = furthest furthest_law middle come in
      let t = served (machines c.kind) c1 h1 host clock request stop (shows_fault decision) in
      let left : t.host.holdback ≡ [] = nothing_held h1 t (shaped (machines c.kind) c1 h1 host clock request stop (shows_fault decision)) none.0 in
      let holds = nothing t.common.journal t.common.ran t.host.place.position t.host.holdback left in
      subst (λ (b : Bool). IsAnswered machines (served_caught_up (machines c.kind) c h host clock request stop b) replied before.steps now) (same_fault decision) (record {
        stand = record { log = is.log; replica = is.replica; held = subst (λ (o : List HeldOrder). HoldStands t.common.journal t.common.ran t.host.place.position t.host.holdback o) (sym (held ∙ none.1)) holds };
        told = is.told;
        calls = omega (arith, is.calls, counted);
      })

  -- no memory was found, and the replica is loaded still: nothing has changed since it caught up
  pub short_of : (host clock : ℕ) (stop : Stop) (middle now : Parts) → HasComeTo machines c h middle (length c.journal) → middle.steps ≡ before.steps + calls_behind c h →
      now.held ≡ middle.held → now.replica.loaded ≡ true →
      IsSequenced machines c1 h1 host clock request stop serves.NoMemory (seen_of middle) (seen_of now) → IsEntered machines c h host clock request stop Short before now
  short_of host clock stop middle now come counted held loaded (inl same) =
      let is : now ≡ middle =
      ap (λ (s : Seen). parts s.log s.replica now.held s.steps) same ∙ ap (λ (o : List HeldOrder). parts middle.log middle.replica o middle.steps) held in
      inr (length c.journal, subst (λ (p : Parts). HasStoppedAt machines c h before p (length c.journal)) (sym is) (record { come = come; calls = omega (arith, counted) }))
  short_of host clock stop middle now come counted held loaded (inr unrun) =
      let no : true ≡ false = sym loaded ∙ unrun.1.replica.loaded in absurd cc

  -- the replica is blank: the request joined
  pub unrun_of : FurthestHoldNothing → NothingIsHeld → (host clock : ℕ) (stop : Stop) (middle now : Parts) → HasComeTo machines c h middle (length c.journal) →
      middle.steps ≡ before.steps + calls_behind c h → now.held ≡ middle.held → now.replica.loaded ≡ false →
      IsSequenced machines c1 h1 host clock request stop serves.NoMemory (seen_of middle) (seen_of now) → IsEntered machines c h host clock request stop Unrun before now
  unrun_of furthest_law nothing host clock stop middle now come counted held blank_now (inl same) =
      let still : now.replica.loaded ≡ middle.replica.loaded = ap (λ (s : Seen). s.replica.loaded) same in
      let no : false ≡ true = sym blank_now ∙ still ∙ come.stand.replica.loaded ∙ come.loaded in absurd cc
  unrun_of furthest_law nothing host clock stop middle now come counted held blank_now (inr unrun) =
      let none = furthest furthest_law middle come in
      let ran : c1.ran ≡ length c.journal = (let few = come.stand.log.sound.numbers.ran in omega arith) in
      let d = record (joined c (max clock c.time) request) { ran = length c.journal } in
      let same : joined c1 (max clock c.time) request ≡ d = ap (λ (k : ℕ). record (joined c (max clock c.time) request) { ran = k }) ran in
      record {
        new = unrun.0;
        to_run = unrun.1.to_run;
        stand = record {
          log = subst (λ (x : Common). LogStands machines x now.log) same unrun.1.log;
          replica = subst (λ (x : Common). ReplicaStands machines x now.replica nowhere) same unrun.1.replica;
          held = subst (λ (o : List HeldOrder). HoldStands d.journal d.ran 0 [] o) (sym (held ∙ none.1)) (nothing d.journal d.ran 0 [] refl);
        };
        calls = omega (arith, unrun.1.calls, counted);
      }
