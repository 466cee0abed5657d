-- A change of members.
use Rattle.std.proofs.Common.{◌≡◌, ℕ, ◌<◌, ◌-◌, inl, inr, ◌⊎◌, Bool, true, false, List, [], ◌∷◌, length, refl, sym, subst, ap, ◌∙◌, arith}
use Rattle.std.specs.Prelude.{Option, Some, None, Ok, Err, nat_le, if◌then◌else◌}
use Rattle.std.proofs.lemmas.Bool.Decides.{nat_tests}
use Rattle.std.proofs.lemmas.Option.{slice_get-get_or}
use Rattle.std.specs.List.{AllByRecursion}
use Rattle.ft_base.specs.Machine.{Machine}
use Rattle.ft_base.specs.Members.{AreDifferent}
use Rattle.ft_base.specs.declared.limits.TheConstants.{HOST_LIMIT, VIEW_LIMIT}
use Rattle.ft_base.specs.declared.views.Style.{Style}
use Rattle.ft_base.specs.declared.views.View.{View}
use Rattle.message_log.specs.Calls.{IsViewed}
use Rattle.message_log.specs.Calls as logs
use Rattle.message_log.specs.Picture.{Picture as LogPicture}
use Rattle.message_log.specs.declared.answers.LogFault.TheVariants as log_faults
use Rattle.group_model.specs.declared.changes.Change.{Change}
use Rattle.group_model.specs.declared.changes.ManageFault.{ManageFault}
use Rattle.group_model.specs.declared.changes.ManageFault.TheVariants as manage_faults
use Rattle.group_model.specs.declared.events.Event.TheVariants as events
use Rattle.group_model.specs.declared.events.GroupAnswer.{GroupAnswer}
use Rattle.group_model.specs.declared.events.GroupAnswer.TheVariants as answers
use Rattle.group_model.specs.declared.events.Out.{Out}
use Rattle.group_model.specs.Agreeing.{IsViewAt}
use Rattle.group_model.specs.Changes.{ChangeRow, first_fault, change_rows, next_view, view_sent, with_view, changed, changed_or, on_manage, host_of_change}
use Rattle.group_model.specs.Events.{is_fault_of_log, shows_fault}
use Rattle.group_model.specs.Lean as leans
use Rattle.group_model.specs.Plain.{Common, Host, Group}
use Rattle.group_model.specs.Turns.{Turn}
use Rattle.group_model.specs.Views.{newest_view, no_view}
use Rattle.group_stands.specs.Going.{LogsGoOnBeside}
use Rattle.group_stands.specs.Stands.{LogStands}
use Rattle.group_stands.specs.Telling.{LogsTell}
use Rattle.group_stands.specs.Viewing.{ViewsJoin, ReplicasGoOnViewed}
use Rattle.group_hosts.specs.Hosts.{HostPicture, HostStands, IsHere, Shared}
use Rattle.group_hosts.specs.Turning.{seen, IsTurn}
use Rattle.group_hosts.specs.Keeping.{WroteNothing, WroteRefused}
use Rattle.group_hosts.specs.Managing.{CanManage, IsManaged}

module _ (machines : ℕ → Machine) (c : Common) (style : Style) (change : Change) (log : LogPicture) (can : CanManage machines c style change log) where
  -- the log's newest view is the last of its group's
  newest_is_view : LogsTell → IsViewAt c.style (length c.views - 1) log.newest
  newest_is_view tell =
      let views = can.log.sound.views in
      rw ((tell machines c log can.log).view) (views.each (length c.views - 1) (newest_view c) (slice_get-get_or c.views (length c.views - 1) no_view (omega (arith, views.some))))

  pub differ : LogsTell → AreDifferent log.newest.members
  differ tell = (newest_is_view tell).is.different

  pub are_hosts : LogsTell → AllByRecursion (λ host. host < HOST_LIMIT) log.newest.members
  are_hosts tell = (newest_is_view tell).hosts

  -- what the plain group looks at is the log's newest view
  rows_are : LogsTell → first_fault (change_rows style log.newest change) ≡ first_fault (change_rows c.style (newest_view c) change)
  rows_are tell = rw (can.style, (tell machines c log can.log).view) refl

  pub refused : LogsTell → (h : Host) (fault : ManageFault) → first_fault (change_rows style log.newest change) ≡ Some fault → IsManaged machines c h change (answers.Refused fault) log
  refused tell h fault is =
      let e : on_manage c h change (is_fault_of_log fault) ≡ changed_or c h change (is_fault_of_log fault) (Some fault) = ap (changed_or c h change (is_fault_of_log fault)) (sym (rows_are tell) ∙ is) in
      rw e (record { log = can.log; told = refl })

  pub changed_so : LogsTell → ViewsJoin → LogsGoOnBeside → (h : Host) (view told : View) (out : List Out) (new : LogPicture) → first_fault (change_rows style log.newest change) ≡ None →
      view ≡ next_view style log.newest change → told ≡ view → out ≡ view_sent log.newest view → IsViewed log view (Ok tt) new → IsManaged machines c h change (answers.Changed told out) new
  changed_so tell joins beside h view told out new may is same sends viewed =
      let tells = tell machines c log can.log in
      let may' : first_fault (change_rows c.style (newest_view c) change) ≡ None = sym (rows_are tell) ∙ may in
      let next : view ≡ next_view c.style (newest_view c) change = is ∙ ap (λ (s : Style). next_view s log.newest change) can.style ∙ ap (λ (v : View). next_view c.style v change) tells.view in
      let joined = joins machines c log can.log change view (record { hosts = can.hosts; may = may'; is = next }) in
      let after : LogStands machines (with_view c view) new = subst (LogStands machines (with_view c view)) (sym viewed.2) (beside machines (with_view c view) (logs.with_view log view) joined None _ _ _) in
      let e : on_manage c h change false ≡ changed_or c h change false None = ap (changed_or c h change false) may' in
      let plain = next_view c.style (newest_view c) change in
      let view_is : plain ≡ told = sym (same ∙ next) in
      let out_is : view_sent (newest_view c) plain ≡ out = sym (sends ∙ ap (λ (v : View). view_sent v view) tells.view ∙ ap (view_sent (newest_view c)) next) in
      rw e (record {
        log = subst (λ (v : View). LogStands machines (with_view c v) new) next after;
        told = ap (λ (v : View). answers.Changed v (view_sent (newest_view c) plain)) view_is ∙ ap (answers.Changed told) out_is;
      })

  pub not_written : LogsTell → LogsGoOnBeside → (h : Host) (view : View) (new : LogPicture) → first_fault (change_rows style log.newest change) ≡ None → IsViewed log view (Err log_faults.Failed) new →
      IsManaged machines c h change (answers.Refused manage_faults.LogFault) new
  not_written tell beside h view new may viewed =
      let e : on_manage c h change true ≡ changed_or c h change true None = ap (changed_or c h change true) (sym (rows_are tell) ∙ may) in
      rw e (record { log = rw viewed.2 (beside machines c log can.log None _ _ _); told = refl })

-- ---- a change that nothing refuses comes before the last version

none_stand : (rows : List ChangeRow) → first_fault rows ≡ None → AllByRecursion (λ (r : ChangeRow). r.stands ≡ false) rows
none_stand [] none = tt
none_stand (r ∷ rows) none = go (none_stand rows) r.stands refl none where
  go : (first_fault rows ≡ None → AllByRecursion (λ (x : ChangeRow). x.stands ≡ false) rows) → (b : Bool) → r.stands ≡ b → (if b then Some r.fault else first_fault rows) ≡ None →
      (r.stands ≡ false) × AllByRecursion (λ (x : ChangeRow). x.stands ≡ false) rows
  go later true stands nothing = absurd cc
  go later false stands nothing = (stands, later nothing)

pub not_full : (style : Style) (view : View) (change : Change) → first_fault (change_rows style view change) ≡ None → view.version.0 ≡ VIEW_LIMIT → ⊥
not_full style view change none full =
    let all = none_stand (change_rows style view change) none in
    let below : nat_le VIEW_LIMIT view.version.0 ≡ false = all.1.1.1.1.1.1.1.0 in
    let at : nat_le VIEW_LIMIT view.version.0 ≡ true = grind (arith, nat_tests) in
    let no' : true ≡ false = sym at ∙ below in absurd cc

-- ---- a change that is refused by a row writes nothing

module _ (log : LogPicture) where
  rows_quiet : (rows : List ChangeRow) → AllByRecursion (λ (r : ChangeRow). WroteRefused r.fault log log) rows → (fault : ManageFault) → first_fault rows ≡ Some fault → WroteRefused fault log log
  rows_quiet [] all fault is = absurd cc
  rows_quiet (r ∷ rows) all fault is = go r.stands is (rows_quiet rows all.1 fault) where
    some_is : (x y : ManageFault) → Some x ≡ Some y → x ≡ y
    some_is x y e = cc

    go : (b : Bool) → (if b then Some r.fault else first_fault rows) ≡ Some fault → (first_fault rows ≡ Some fault → WroteRefused fault log log) → WroteRefused fault log log
    go true e rest = subst (λ (x : ManageFault). WroteRefused x log log) (some_is r.fault fault e) all.0
    go false e rest = rest e

  pub refused_quiet : (style : Style) (view : View) (change : Change) (fault : ManageFault) → first_fault (change_rows style view change) ≡ Some fault → WroteRefused fault log log
  refused_quiet style view change fault is =
      let nothing : WroteNothing log log = (refl, refl) in
      rows_quiet (change_rows style view change) (nothing, (nothing, (nothing, (nothing, (nothing, (nothing, (nothing, (nothing, tt)))))))) fault is

-- ---- what a change leaves

-- the host, the journal and what has run
record IsManageTurn (c : Common) (h : Host) (t : Turn) : Type 0 where
  host : t.host ≡ h
  grown : (t.common ≡ c) ⊎ ((view : View) × (t.common ≡ with_view c view))
  calls : t.calls ≡ 0

shape_changed : (c : Common) (h : Host) (old new : View) (fails : Bool) → IsManageTurn c h (changed c h old new fails)
shape_changed c h old new true = record { host = refl; grown = inl refl; calls = refl }
shape_changed c h old new false = record { host = refl; grown = inr (new, refl); calls = refl }

shape_or : (c : Common) (h : Host) (change : Change) (fails : Bool) (o : Option ManageFault) → IsManageTurn c h (changed_or c h change fails o)
shape_or c h change fails (Some fault) = record { host = refl; grown = inl refl; calls = refl }
shape_or c h change fails None = shape_changed c h (newest_view c) (next_view c.style (newest_view c) change) fails

manage_shape : (c : Common) (h : Host) (change : Change) (fails : Bool) → IsManageTurn c h (on_manage c h change fails)
manage_shape c h change fails = shape_or c h change fails (first_fault (change_rows c.style (newest_view c) change))

-- a host stands there as it stood
viewed_host : ReplicasGoOnViewed → (machines : ℕ → Machine) (c : Common) (h : Host) (p : HostPicture) (view : View) → HostStands machines c p h → HostStands machines (with_view c view) p h
viewed_host replicas machines c h p view stands = record { up = stands.up; known = stands.known; replica = replicas machines c p.replica h.place stands.replica view; held = stands.held }

managed_host : ReplicasGoOnViewed → (machines : ℕ → Machine) (c : Common) (h : Host) (p : HostPicture) (t : Turn) → IsManageTurn c h t → HostStands machines c p h → HostStands machines t.common p t.host
managed_host replicas machines c h p t shape stands = go shape.grown where
  go : (t.common ≡ c) ⊎ ((view : View) × (t.common ≡ with_view c view)) → HostStands machines t.common p t.host
  go (inl same) = rw (same, shape.host) stands
  go (inr grown) = rw (grown.1, shape.host) (viewed_host replicas machines c h p grown.0 stands)

-- ---- the change as an event of the group

pub managed_taken : ReplicasGoOnViewed → (machines : ℕ → Machine) (g : Group) (s : Shared) (change : Change) (p : HostPicture) → IsHere machines g.common (g.hosts (host_of_change change).0) s p →
    (answer : GroupAnswer) (steps : ℕ) (log : LogPicture) → IsManaged machines g.common (g.hosts (host_of_change change).0) change answer log → IsTurn machines g (events.Manage change) answer steps (seen log p steps)
managed_taken replicas machines g s change p here answers.NoMemory steps log left = record {
  left = g;
  lean = leans.nothing refl;
  log = left.1;
  host = here.host;
  sound = here.sound;
  calls = omega arith;
  unwritten = λ same. omega arith;
}
managed_taken replicas machines g s change p here answer steps log is =
    let h = g.hosts (host_of_change change).0 in
    let shape = manage_shape g.common h change (shows_fault answer) in
    record {
      log = is.log;
      host = managed_host replicas machines g.common h p (on_manage g.common h change (shows_fault answer)) shape here.host;
      told = is.told;
      calls = omega (arith, shape.calls);
    }
