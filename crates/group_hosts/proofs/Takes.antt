-- A host that takes a checkpoint, or sends an update.
use Rattle.std.proofs.Common.{◌≡◌, ℕ, ◌+◌, ◌≤◌, inl, inr, Bool, true, false, length, refl, sym, subst, ap, ◌∙◌, arith}
use Rattle.ft_base.specs.Machine.{Machine}
use Rattle.ft_base.specs.declared.numbers.HostNo.{HostNo}
use Rattle.ft_base.specs.declared.numbers.Tick.{Tick}
use Rattle.ft_base.specs.declared.numbers.Version.{Version}
use Rattle.message_log.specs.Picture.{Picture as LogPicture}
use Rattle.ft_replica.specs.Picture.{Picture as ReplicaPicture}
use Rattle.group_model.specs.declared.events.Event.{Event}
use Rattle.group_model.specs.declared.events.Event.TheVariants as events
use Rattle.group_model.specs.declared.events.GroupAnswer.{GroupAnswer}
use Rattle.group_model.specs.declared.events.GroupAnswer.TheVariants as answers
use Rattle.group_model.specs.Agreeing.{IsSoundHost}
use Rattle.group_model.specs.Events.{turn, host_of, shows_fault}
use Rattle.group_model.specs.Lean as leans
use Rattle.group_model.specs.Plain.{Common, Host, Group, from, start_of, caught_up_to, put, with_ran}
use Rattle.group_model.specs.Serving.{calls_behind}
use Rattle.group_model.specs.Transfers.{taking, checkpoint_written, on_checkpoint, update_taken, on_send_update}
use Rattle.group_model.specs.Turns.{Turn, costing}
use Rattle.group_model.specs.Views.{newest}
use Rattle.group_stands.specs.Stands.{LogStands}
use Rattle.group_stands.specs.Telling.{LogsTell}
use Rattle.group_hosts.specs.Asking.{Parts, parts, CanCatchUp, HasComeTo, HasStopped}
use Rattle.group_hosts.specs.Hosts.{HostPicture, HostStands, IsHere, Shared}
use Rattle.group_hosts.specs.Taking.{Gave, IsGiven, IsReady, IsUnready, informed}
use Rattle.group_hosts.specs.Turning.{seen, IsTaken, IsShort, IsTurn}
use Rattle.group_hosts.proofs.Hears.{put-same, up_is}
use Rattle.group_hosts.proofs.Holds.{sound_of, with_ran-same}
use Rattle.group_hosts.proofs.Knows.{newest_known}

-- ---- the host knows the newest view, and catches up

module _ (machines : ℕ → Machine) (c : Common) (h : Host) (s : Shared) (p : HostPicture) (here : IsHere machines c h s p) where
  pub informed_can : (steps : ℕ) → CanCatchUp machines c (informed c h) s.kind s.opening (parts s.log p.replica p.held steps)
  informed_can steps = record {
    stand = record { log = here.log; replica = here.host.replica; held = here.host.held };
    opening = here.opening;
  }

  -- what it knows is the log's newest version
  knows : LogsTell → (version : Version) → version ≡ s.log.newest.version → version.0 ≡ newest c
  knows tell version is = ap (λ (v : Version). v.0) is ∙ (tell machines c s.log here.log).version

  pub ready_of : LogsTell → (version : Version) (now : Parts) → version ≡ s.log.newest.version → HasComeTo machines c (informed c h) now (length c.journal) →
      IsReady machines c h now.log (record { up = p.up; known = version.0; replica = now.replica; held = now.held })
  ready_of tell version now is come = record {
    log = come.stand.log;
    host = record { up = here.host.up; known = knows tell version is; replica = come.stand.replica; held = come.stand.held };
    caught_up = record { loaded = come.loaded; end = refl };
    first = come.first;
  }

  pub unready_of : LogsTell → (version : Version) (steps : ℕ) (now : Parts) → version ≡ s.log.newest.version → HasStopped machines c (informed c h) (parts s.log p.replica p.held steps) now →
      IsUnready machines c h now.log (record { up = p.up; known = version.0; replica = now.replica; held = now.held }) × (now.steps ≤ steps + calls_behind c h)
  unready_of tell version steps now is (inl same) =
      let log : now.log ≡ s.log = ap (λ (x : Parts). x.log) same in
      let replica : now.replica ≡ p.replica = ap (λ (x : Parts). x.replica) same in
      let held : now.held ≡ p.held = ap (λ (x : Parts). x.held) same in
      let count : now.steps ≡ steps = ap (λ (x : Parts). x.steps) same in
      (inl (rw log here.log, rw (replica, held) (record { up = here.host.up; known = knows tell version is; replica = here.host.replica; held = here.host.held })), omega (arith, count))
  unready_of tell version steps now is (inr stopped) =
      let come = stopped.1.come in (
        inr (
          stopped.0,
          record {
            log = come.stand.log;
            host = record { up = here.host.up; known = knows tell version is; replica = come.stand.replica; held = come.stand.held };
            loaded = come.loaded;
            first = come.first;
            last = come.last;
          },
        ),
        stopped.1.calls,
      )

-- ---- a host that found no memory on its way

module _ (machines : ℕ → Machine) (g : Group) (s : Shared) (e : Event) (p : HostPicture) (here : IsHere machines g.common (g.hosts (host_of e)) s p) where
  abbrev shares : Common
  shares = g.common

  abbrev own : Host
  own = g.hosts (host_of e)

  -- an event that has its host, which is up, know the newest view and catch up, whatever comes then
  pub record IsTaking : Type 0 where
    pub up : own.up ≡ true
    pub part : (x : Host) → leans.IsOnTheWay shares own (newest shares) x → leans.LeavesPart (machines shares.kind) g e x
    pub catches_up : (fails : Bool) → calls_behind shares own ≤ (turn (machines shares.kind) shares own e fails).calls

  module _ (is : IsTaking) (before now : ℕ) (calls : now ≤ before + calls_behind shares own) where
    enough : (fails : Bool) → now ≤ before + (turn (machines shares.kind) shares own e fails).calls
    enough fails = omega (arith, calls, is.catches_up fails)

    -- what it leaves, where the host is this one
    left_by : (x : Host) (log : LogPicture) (picture : HostPicture) → leans.IsOnTheWay shares own (newest shares) x →
        LogStands machines (with_ran x.place.position shares) log → HostStands machines (with_ran x.place.position shares) picture x →
        IsSoundHost (with_ran x.place.position shares) x → IsShort machines g e before (seen log picture now)
    left_by x log picture way log_stands host_stands sound = record {
      left = record { common = with_ran x.place.position shares; hosts = put g.hosts (host_of e) x };
      lean = leans.partly (record { up = is.up; host = x; part = is.part x way; is = refl });
      log = log_stands;
      host = subst (λ (y : Host). HostStands machines (with_ran x.place.position shares) picture y) (sym (put-same g.hosts (host_of e) x)) host_stands;
      sound = subst (λ (y : Host). IsSoundHost (with_ran x.place.position shares) y) (sym (put-same g.hosts (host_of e) x)) sound;
      calls = enough false;
      unwritten = λ same. enough true;
    }

    -- before it began
    short_at_once : (log : LogPicture) (picture : HostPicture) → LogStands machines shares log → HostStands machines shares picture (informed shares own) → IsShort machines g e before (seen log picture now)
    short_at_once log picture stands host_stands =
        let same : with_ran own.place.position shares ≡ shares = with_ran-same shares own.place.position here.sound.position in
        let sound : IsSoundHost shares (informed shares own) =
        sound_of machines shares picture (informed shares own) host_stands is.up (newest_known machines shares s.log here.log) here.sound.unloaded here.sound.passive in
        left_by (informed shares own) log picture
        (record { known = newest shares; knows = inr refl; come = inl refl })
        (subst (λ (d : Common). LogStands machines d log) (sym same) stands)
        (subst (λ (d : Common). HostStands machines d picture (informed shares own)) (sym same) host_stands)
        (subst (λ (d : Common). IsSoundHost d (informed shares own)) (sym same) sound)

    -- at a position
    pub short_there : (log : LogPicture) (picture : HostPicture) (n : ℕ) → (caught_up_to shares (informed shares own) n).place.loaded ≡ true → (start_of shares own.place).position ≤ n → n ≤ length shares.journal →
        LogStands machines (with_ran n shares) log → HostStands machines (with_ran n shares) picture (caught_up_to shares (informed shares own) n) → IsShort machines g e before (seen log picture now)
    short_there log picture n loaded first last log_stands host_stands =
        let there = caught_up_to shares (informed shares own) n in
        left_by there log picture
        (record { known = newest shares; knows = inr refl; come = inr (n, first, last, refl) })
        log_stands host_stands
        (sound_of machines (with_ran n shares) picture there host_stands is.up (newest_known machines shares s.log here.log) (λ no. let impossible : true ≡ false = sym loaded ∙ no in absurd cc) (λ passive. ap (from n) (here.sound.passive passive)))

    pub short_unready : (log : LogPicture) (picture : HostPicture) → IsUnready machines shares own log picture → IsTurn machines g e answers.NoMemory before (seen log picture now)
    short_unready log picture (inl at_once) = short_at_once log picture at_once.0 at_once.1
    short_unready log picture (inr there) = short_there log picture there.0 there.1.loaded there.1.first there.1.last there.1.log there.1.host

module _ (machines : ℕ → Machine) (g : Group) (s : Shared) (host : HostNo) (p : HostPicture) (here : IsHere machines g.common (g.hosts host.0) s p) (up : p.up ≡ true) where
  abbrev c : Common
  c = g.common

  abbrev h : Host
  h = g.hosts host.0

  -- ---- a checkpoint

  abbrev d : Common
  d = with_ran (length c.journal) c

  pub checkpoint_takes : (clock : Tick) → IsTaking machines g s (events.Checkpoint host clock) p here
  checkpoint_takes clock = record {
    up = sym here.host.up ∙ up;
    part = λ x way. way;
    catches_up = λ fails. subst (λ (t : Turn). calls_behind c h ≤ t.calls) (sym (up_is machines g s host p here (on_checkpoint (machines c.kind) c h host.0 clock.0 fails) up)) (omega arith);
  }

  pub update_takes : IsTaking machines g s (events.SendUpdate host) p here
  update_takes = record {
    up = sym here.host.up ∙ up;
    part = λ x way. way;
    catches_up = λ fails. subst (λ (t : Turn). calls_behind c h ≤ t.calls) (sym (up_is machines g s host p here (on_send_update (machines c.kind) c h host.0) up)) (omega arith);
  }

  -- what such a turn leaves
  record IsTakenShape (t : Turn) : Type 0 where
    journal : t.common.journal ≡ c.journal
    ran : t.common.ran ≡ d.ran
    same_up : t.host.up ≡ h.up
    known : t.host.known ≡ newest c
    position : t.host.place.position ≡ length c.journal
    holdback : t.host.holdback ≡ (taking c h).holdback
    none : t.calls ≡ 0

  -- what a host that is ready takes leaves all of it but its replica
  taken_of : (t : Turn) (answer : GroupAnswer) (before now : ℕ) (log : LogPicture) (picture : HostPicture) (replica : ReplicaPicture) → Gave machines t answer log replica →
      HostStands machines d picture (taking c h) → t.common.journal ≡ c.journal → t.common.ran ≡ d.ran → t.host.up ≡ h.up → t.host.known ≡ newest c →
      t.host.place.position ≡ length c.journal → t.host.holdback ≡ (taking c h).holdback → t.calls ≡ 0 → now ≡ before + calls_behind c h →
      IsTaken machines (costing (calls_behind c h) t) answer before (seen log (record picture { replica = replica }) now)
  taken_of t answer before now log picture replica gave stands journal ran same_up known position holdback none count = record {
    log = gave.log;
    host = record {
      up = stands.up ∙ sym same_up;
      known = stands.known ∙ sym known;
      replica = gave.replica;
      held = rw (journal, ran, position, holdback) stands.held;
    };
    told = gave.told;
    calls = omega (arith, count, none);
  }

  -- the shape of what is written
  written_shape : (clock : ℕ) (fails : Bool) → IsTakenShape (checkpoint_written (machines c.kind) d (taking c h) host.0 clock fails)
  written_shape clock true = record { journal = refl; ran = refl; same_up = refl; known = refl; position = refl; holdback = refl; none = refl }
  written_shape clock false = record { journal = refl; ran = refl; same_up = refl; known = refl; position = refl; holdback = refl; none = refl }

  shaped_taken : (t : Turn) (answer : GroupAnswer) (before now : ℕ) (log : LogPicture) (picture : HostPicture) (replica : ReplicaPicture) → IsTakenShape t → Gave machines t answer log replica →
      HostStands machines d picture (taking c h) → now ≡ before + calls_behind c h → IsTaken machines (costing (calls_behind c h) t) answer before (seen log (record picture { replica = replica }) now)
  shaped_taken t answer before now log picture replica shape gave stands count =
      taken_of t answer before now log picture replica gave stands shape.journal shape.ran shape.same_up shape.known shape.position shape.holdback shape.none count

  pub checkpoint_given : (clock : Tick) (answer : GroupAnswer) (before now : ℕ) (middle log : LogPicture) (picture : HostPicture) (replica : ReplicaPicture) → IsReady machines c h middle picture →
      IsGiven machines d (taking c h) (checkpoint_written (machines c.kind) d (taking c h) host.0 clock.0) answer log picture.replica replica → now ≡ before + calls_behind c h →
      IsTurn machines g (events.Checkpoint host clock) answer before (seen log (record picture { replica = replica }) now)
  checkpoint_given clock answers.NoMemory before now middle log picture replica ready given count =
      rw given.1 (short_there machines g s (events.Checkpoint host clock) p here (checkpoint_takes clock) before now (omega (arith, count)) log picture (length c.journal) ready.caught_up.loaded ready.first (omega arith) given.0 ready.host)
  checkpoint_given clock answer before now middle log picture replica ready given count =
      subst (λ (t : Turn). IsTaken machines t answer before (seen log (record picture { replica = replica }) now))
      (sym (up_is machines g s host p here (on_checkpoint (machines c.kind) c h host.0 clock.0 (shows_fault answer)) up))
      (shaped_taken (checkpoint_written (machines c.kind) d (taking c h) host.0 clock.0 (shows_fault answer)) answer before now log picture replica (written_shape clock.0 (shows_fault answer)) given ready.host count)

  pub update_given : (answer : GroupAnswer) (before now : ℕ) (log : LogPicture) (picture : HostPicture) (replica : ReplicaPicture) → IsReady machines c h log picture →
      IsGiven machines d (taking c h) (λ fails. update_taken (machines c.kind) d (taking c h) host.0) answer log picture.replica replica → now ≡ before + calls_behind c h →
      IsTurn machines g (events.SendUpdate host) answer before (seen log (record picture { replica = replica }) now)
  update_given answers.NoMemory before now log picture replica ready given count =
      rw given.1 (short_there machines g s (events.SendUpdate host) p here update_takes before now (omega (arith, count)) log picture (length c.journal) ready.caught_up.loaded ready.first (omega arith) given.0 ready.host)
  update_given answer before now log picture replica ready given count =
      subst (λ (t : Turn). IsTaken machines t answer before (seen log (record picture { replica = replica }) now))
      (sym (up_is machines g s host p here (on_send_update (machines c.kind) c h host.0) up))
      (shaped_taken (update_taken (machines c.kind) d (taking c h) host.0) answer before now log picture replica (record { journal = refl; ran = refl; same_up = refl; known = refl; position = refl; holdback = refl; none = refl }) given ready.host count)
