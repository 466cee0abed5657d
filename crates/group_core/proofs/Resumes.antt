-- A core goes on over a log that was opened again.
use Rattle.std.proofs.Common.{◌≡◌, ℕ, ◌+◌, max, true, List, [], ◌∷◌, ◌++◌, length, length-append, None, refl, sym, subst, ◌∙◌, arith, inl, inr}
use Rattle.std.specs.Prelude.{slice_get, Result, Ok, Err}
use Rattle.ft_base.specs.Machine.{Machine}
use Rattle.ft_base.specs.declared.limits.TheConstants.{HOST_LIMIT}
use Rattle.ft_base.specs.declared.views.Style.{Style}
use Rattle.message_log.specs.Calls.{checkpointed, with_entry, with_view}
use Rattle.message_log.specs.Opening.{Content, IsBad, content_of}
use Rattle.message_log.specs.Picture.{Picture as LogPicture}
use Rattle.message_log.specs.Recording.{EntriesAreWrittenDown, ViewsAreWrittenDown, CheckpointsAreWrittenDown, joined_as_written, viewed_as_written, cut_as_written}
use Rattle.message_log.specs.Written.{IsWrittenDown}
use Rattle.message_log.specs.declared.answers.ReopenFault.{ReopenFault}
use Rattle.message_log.specs.declared.answers.ReopenFault.TheVariants.{Bad, NoMemory}
use Rattle.ft_replica.specs.Picture.{opened as opened_picture}
use Rattle.group_model.specs.Changes as changes
use Rattle.group_model.specs.Plain.{Common, Host, Group, blank}
use Rattle.group_model.specs.Reopening.{ReopenedGroupsAreSound, reopened_common}
use Rattle.group_model.specs.Serving.{joined}
use Rattle.group_model.specs.Transfers.{marked}
use Rattle.group_stands.specs.Going.{BlanksStand, LogsGoOnBeside, RequestsJoin, CheckpointsStand}
use Rattle.group_stands.specs.Holding.{NothingIsHeld}
use Rattle.group_stands.specs.Reopening.{LogsAreReopened}
use Rattle.group_stands.specs.Stands.{LogStands, OpeningStands}
use Rattle.group_stands.specs.Telling.{LogsTell}
use Rattle.group_stands.specs.Viewing.{ViewsJoin}
use Rattle.group_hosts.specs.Hosts.{HostPicture, HostStands, opening_picture}
use Rattle.group_core.specs.Cores.{CorePicture, Stands}
use Rattle.group_core.specs.Opening.{AreBlank}
use Rattle.group_core.specs.Resuming.{MayResume, GoesOnFrom, CoresMayGoOn, EntriesMayBeThere, ViewsMayBeThere, CheckpointsMayBeThere}
use Rattle.group_core.proofs.Opens.{slice_get-push}

-- ---- blank hosts

module _ (kind : ℕ) (state : List ℕ) where
  pub no_blanks : AreBlank kind state [] 0
  no_blanks = record { count = refl; each = λ i host there. cc }

  pub one_more_blank : (hosts : List HostPicture) (host : HostPicture) (n : ℕ) → AreBlank kind state hosts n → host ≡ opening_picture kind state (blank true) →
      AreBlank kind state (hosts ++ host ∷ []) (n + 1)
  one_more_blank hosts host n so is = record {
    count = let e = length-append hosts (host ∷ []) in omega (arith, e, so.count);
    each = λ i other there. elim (slice_get-push hosts host other i there) [
      | inl before ↦ so.each i other before
      | inr last ↦ sym last.1 ∙ is
    ];
  }

-- ---- they and the log stand for the group

module _ (blanks : BlanksStand) (nothing_held : NothingIsHeld) (machines : ℕ → Machine) (id : ℕ) (style : Style) (kind : ℕ) (state : List ℕ) where
  blank_stands : (c : Common) → OpeningStands c kind state → HostStands machines c (opening_picture kind state (blank true)) (blank true)
  blank_stands c opens = record {
    up = refl;
    known = refl;
    replica = blanks machines c (opened_picture kind state) opens.kind;
    held = nothing_held c.journal c.ran 0 [] refl;
  }

  pub resumed_stands : (log its_log : LogPicture) (first : ℕ) (hosts : List HostPicture) → its_log ≡ log → first ≡ log.newest.version.0 → AreBlank kind state hosts HOST_LIMIT →
      (g : Group) → MayResume machines id style kind state log g →
      Stands machines (record { id = id; style = style; kind = kind; opening = state; first_kept = first; log = its_log; hosts = hosts }) g
  resumed_stands log its_log first hosts same newest so g may = record {
    id = may.id;
    style = may.style;
    opening = may.opening;
    first_kept = newest ∙ sym may.first_kept;
    log = subst (LogStands machines g.common) (sym same) may.log;
    count = so.count;
    hosts = λ i host there.
        subst (λ (h : Host). HostStands machines g.common host h) (sym (may.hosts i))
        (subst (λ (p : HostPicture). HostStands machines g.common p (blank true)) (sym (so.each i host there)) (blank_stands g.common may.opening));
    sound = may.sound;
  }

-- ---- records that can be read

err_ok : (n : ℕ) (d : Content) → ◌≡◌ {A = Result Content ℕ} (Err n) (Ok d) → ⊥
err_ok n d h = cc

never_bad : (log : LogPicture) → IsWrittenDown log → (fault : ReopenFault) → IsBad (content_of log.records) fault → fault ≡ NoMemory
never_bad log written (Bad number) bad = absurd (err_ok number _ (sym bad ∙ written.says))
never_bad log written NoMemory bad = refl

-- ---- a core may go on

module _ (sound : ReopenedGroupsAreSound) (reopens : LogsAreReopened) (tell : LogsTell) where
  -- over a log that stands for a group of the core's number, style and servant
  module _ (machines : ℕ → Machine) (core : CorePicture) (g : Group) (stands : Stands machines core g) where
    goes_on : (c : Common) (log : LogPicture) → c.id ≡ g.common.id → c.style ≡ g.common.style → c.kind ≡ g.common.kind → c.opening ≡ g.common.opening →
        LogStands machines c log → IsWrittenDown log → GoesOnFrom machines core log.records (record g { common = c })
    goes_on c log id style kind opening log_stands written = record {
      opens = never_bad log written;
      resumes = λ again plan faults is. let again_stands = reopens machines c log log_stands written again plan faults is in record {
        id = stands.id ∙ sym id;
        style = stands.style ∙ sym style;
        opening = record { kind = stands.opening.kind ∙ sym kind; state = stands.opening.state ∙ sym opening };
        log = again_stands;
        hosts = λ i. refl;
        ran = refl;
        first_kept = sym (tell machines (reopened_common c) again again_stands).version;
        sound = sound (machines c.kind) (record g { common = c }) log_stands.sound;
      };
    }

  pub may_go_on : CoresMayGoOn
  may_go_on machines core g stands written = goes_on machines core g stands g.common core.log refl refl refl refl stands.log written

  pub entries : EntriesAreWrittenDown → RequestsJoin → LogsGoOnBeside → EntriesMayBeThere
  entries down join beside machines core g stands written version clock request new fits short writable =
      let log = core.log in
      let as_written = joined_as_written log version clock request log.plan log.faults in
      let c = joined g.common (max clock.0 g.common.time) request in
      goes_on machines core g stands c as_written refl refl refl refl
      (beside machines c (with_entry log version clock request) (join machines g.common log stands.log version clock request new fits short) None as_written.records log.plan log.faults)
      (down log written version clock request writable log.plan log.faults)

  pub views : ViewsAreWrittenDown → ViewsJoin → LogsGoOnBeside → ViewsMayBeThere
  views down join beside machines core g stands written change view next writable =
      let log = core.log in
      let as_written = viewed_as_written log view log.plan log.faults in
      let c = changes.with_view g.common view in
      let stands_viewed = join machines g.common log stands.log change view next in
      goes_on machines core g stands c as_written refl refl refl refl
      (beside machines c (with_view log view) stands_viewed None as_written.records log.plan log.faults)
      (down log written view (numbered machines core g stands view stands_viewed) writable log.plan log.faults)
    where
      numbered : (machines : ℕ → Machine) (core : CorePicture) (g : Group) → Stands machines core g → (view : _) →
          LogStands machines (changes.with_view g.common view) (with_view core.log view) → view.version.0 ≡ core.log.newest.version.0 + 1
      numbered machines core g stands view viewed =
          let old = (tell machines g.common core.log stands.log).version in
          let new = (tell machines (changes.with_view g.common view) (with_view core.log view) viewed).version in
          omega (arith, old, new, length-append g.common.views (view ∷ []))

  pub checkpoints : CheckpointsAreWrittenDown → CheckpointsStand → LogsGoOnBeside → CheckpointsMayBeThere
  checkpoints down stand beside machines core g stands written ran clock state is writable newest how =
      let log = core.log in
      let as_written = cut_as_written log clock state how log.plan log.faults in
      let c = marked g.common clock.0 in
      let cut : LogStands machines c (checkpointed log clock state) =
      subst (λ (s : List ℕ). LogStands machines c (checkpointed log clock s)) (sym is) (stand machines g.common log stands.log ran clock) in
      goes_on machines core g stands c as_written refl refl refl refl
      (beside machines c (checkpointed log clock state) cut None as_written.records log.plan log.faults)
      (down log written clock state writable newest how log.plan log.faults)
