-- What a host that has caught up makes of a request is the plain group's turn.
use Rattle.std.proofs.Common.{◌≡◌, ℕ, ◌+◌, inl, inr, max, Bool, true, false, List, [], ◌∷◌, ◌++◌, length, length-append, Option, Some, None, refl, sym, ap, subst, ◌∙◌, arith}
use Rattle.ft_base.specs.Machine.{Machine}
use Rattle.ft_base.specs.Journal.{reply_at}
use Rattle.ft_base.specs.declared.decisions.Decision.{Decision}
use Rattle.ft_base.specs.declared.decisions.Decision.TheVariants as decisions
use Rattle.ft_base.specs.declared.decisions.Stop.{Stop}
use Rattle.ft_base.specs.declared.decisions.Stop.TheVariants.{Never, AfterAppend, AfterExecute}
use Rattle.ft_base.specs.declared.numbers.Tick.{Tick}
use Rattle.ft_base.specs.declared.numbers.Version.{Version}
use Rattle.ft_base.specs.declared.requests.Outcome.{Outcome}
use Rattle.ft_base.specs.declared.requests.Request.{Request}
use Rattle.ft_outside.specs.Keeping.{plan_after}
use Rattle.reply_table.specs.Entries.{reply_of}
use Rattle.sys_faults.specs.declared.answers.Answer.{Answer}
use Rattle.sys_faults.specs.declared.answers.Answer.TheVariants.{Done as Answered}
use Rattle.sys_faults.specs.declared.faults.Completed.TheVariants.{Maybe}
use Rattle.sys_faults.specs.declared.faults.SysKind.TheVariants as kinds
use Rattle.message_log.specs.Admission.{admitted as log_admitted}
use Rattle.message_log.specs.Calls.{kept, with_entry, with_outcome, accepted_by}
use Rattle.log_records.specs.Records.{entry_record}
use Rattle.message_log.specs.Picture.{Picture as LogPicture, Reserved, length_of, request_at}
use Rattle.message_log.specs.declared.answers.Admit.TheVariants as admits
use Rattle.ft_replica.specs.Picture.{Picture as ReplicaPicture, one_further, blanked}
use Rattle.group_model.specs.declared.events.GroupAnswer.TheVariants.{Reply}
use Rattle.ft_base.specs.Admissions.{admission}
use Rattle.ft_base.specs.declared.admissions.Admission.{Admission}
use Rattle.ft_base.specs.declared.admissions.Admission.TheVariants.{Same, New}
use Rattle.group_model.specs.Lean.{IsToRun}
use Rattle.group_model.specs.Decisions.{fault}
use Rattle.group_model.specs.Plain.{Common, Host, Place, nowhere, with_ran}
use Rattle.group_model.specs.Serving.{joined, accepted, admitted, served, orders, repeated}
use Rattle.group_model.specs.Turns.{Turn, unchanged}
use Rattle.group_stands.specs.Stands.{LogStands, ReplicaStands}
use Rattle.group_stands.specs.Going.{HasRun, EntriesRun, BlanksStand, LogsGoOnBeside, ReplicasGoOnJoined, RequestsJoin}
use Rattle.group_stands.specs.Telling.{LogsAdmit, CaughtUpHasRun, CaughtUpRepeats}
use Rattle.passive_dispatch.specs.Served.{Seen, alone, CanServe, CanRun, HasJoined, IsTurn, IsUnrun, IsRun, IsServed, IsTold, IsWritten, IsWrittenAs, IsDecided, shows_fault, calls_by}
use Rattle.passive_dispatch.specs.declared.serving.Replied.{Replied}
use Rattle.passive_dispatch.specs.declared.serving.Served.{Served}
use Rattle.passive_dispatch.specs.declared.serving.Served.TheVariants.{Done, NoMemory}

-- ---- an entry is run

pub next_run : EntriesRun → (machines : ℕ → Machine) (c : Common) (place : Place) (log log_after : LogPicture) (replica replica_after : ReplicaPicture)
    (position : ℕ) (request : Request) (outcome reply : Outcome) → position ≡ replica.position → Some request ≡ request_at log position →
    outcome ≡ ((machines replica.kind).step replica.state request).1 → reply ≡ outcome → log_after ≡ with_outcome log position outcome →
    replica_after ≡ one_further (machines replica.kind) request replica → CanRun machines c place log replica → HasRun machines c place reply log_after replica_after
next_run runs machines c place log log_after replica replica_after position request outcome reply is lent gives copied set moves can =
    let there : request_at log replica.position ≡ Some request = ap (request_at log) (sym is) ∙ sym lent in
    let ran = runs machines c place log replica can.log can.replica can.loaded request outcome there gives in
    let same : log_after ≡ with_outcome log replica.position outcome = set ∙ ap (λ (i : ℕ). with_outcome log i outcome) is in
    subst (λ (o : Outcome). HasRun machines c place o log_after replica_after) (sym copied)
    (subst (λ (p : LogPicture). HasRun machines c place outcome p replica_after) (sym same)
    (subst (λ (r : ReplicaPicture). HasRun machines c place outcome (with_outcome log replica.position outcome) r) (sym moves) ran))

-- ---- a request that joined is run

module _ (joining : ReplicasGoOnJoined) (blanks : BlanksStand) (machines : ℕ → Machine) (c : Common) (clock : ℕ) (request : Request) where
  -- the group with it
  abbrev after : Common
  after = joined c (max clock c.time) request

  pub can_run : (place : Place) (now : Seen) → HasJoined machines c place clock request now → CanRun machines after place now.log now.replica
  can_run place now has = record {
    log = has.log;
    replica = joining machines c now.replica place has.replica (omega (arith, has.ran)) (max clock c.time) request;
    loaded = has.caught_up.loaded;
    marked = omega (arith, has.log.sound.numbers.mark, has.ran, has.caught_up.end);
    inside = omega (arith, has.caught_up.end, length-append c.journal (record { at = max clock c.time; request = request } ∷ []));
  }

  -- a blank replica of its kind
  blank_of : (kind : ℕ) (old new : ReplicaPicture) (d : Common) → new ≡ blanked old → old.kind ≡ kind → d.kind ≡ kind → ReplicaStands machines d new nowhere
  blank_of kind old new d is of same = subst (λ (r : ReplicaPicture). ReplicaStands machines d r nowhere) (sym is) (blanks machines d old (of ∙ sym same))

  pub not_run : (h : Host) (host : ℕ) (before now : Seen) (position : ℕ) → HasJoined machines c h.place clock request before → position ≡ length c.journal →
      now.log ≡ before.log → now.replica ≡ blanked before.replica → now.steps ≡ before.steps →
      IsTurn machines (accepted (machines c.kind) c h host (max clock c.time) request AfterAppend) (alone (decisions.Append position) None) before.steps now
  not_run h host before now position has at log replica steps = record {
    log = subst (LogStands machines after) (sym log) has.log;
    replica = blank_of c.kind before.replica now.replica after replica has.replica.kind refl;
    out = [];
    told = ap (λ (n : ℕ). Reply (decisions.Append n) None []) (sym at);
    none = refl;
    calls = omega (arith, steps);
  }

  pub run_and_stopped : (h : Host) (host : ℕ) (before now : Seen) (replica : ReplicaPicture) (position : ℕ) (outcome : Outcome) → HasJoined machines c h.place clock request before → position ≡ length c.journal →
      HasRun machines after h.place outcome now.log replica → now.replica ≡ blanked replica → now.steps ≡ before.steps + 1 →
      IsTurn machines (accepted (machines c.kind) c h host (max clock c.time) request AfterExecute) (alone (decisions.Append position) None) before.steps now
  run_and_stopped h host before now replica position outcome has at ran is steps = record {
    log = subst (λ (n : ℕ). LogStands machines (with_ran (n + 1) after) now.log) has.caught_up.end ran.log;
    replica = blank_of c.kind replica now.replica (with_ran (length c.journal + 1) after) is ran.replica.kind refl;
    out = [];
    told = ap (λ (n : ℕ). Reply (decisions.Append n) None []) (sym at);
    none = refl;
    calls = steps;
  }

  pub run_and_told : (h : Host) (host : ℕ) (before now : Seen) (position : ℕ) (outcome : Outcome) → HasJoined machines c h.place clock request before → position ≡ length c.journal →
      HasRun machines after h.place outcome now.log now.replica → now.steps ≡ before.steps + 1 →
      IsTurn machines (accepted (machines c.kind) c h host (max clock c.time) request Never) (alone (decisions.Append position) (Some (Answered outcome))) before.steps now
  run_and_told h host before now position outcome has at ran steps =
      let out = orders c host (length c.journal) request in
      let reply : reply_at (machines c.kind) c.opening after.journal (length c.journal) ≡ outcome =
      ap (reply_at (machines c.kind) c.opening after.journal) (sym has.caught_up.end) ∙ sym ran.reply in
      record {
        log = subst (λ (n : ℕ). LogStands machines (with_ran (n + 1) after) now.log) has.caught_up.end ran.log;
        replica = subst (λ (n : ℕ). ReplicaStands machines (with_ran (n + 1) after) now.replica (record h.place { position = n + 1 })) has.caught_up.end ran.replica;
        out = out;
        told =
            ap (λ (n : ℕ). Reply (decisions.Append n) (Some (Answered (reply_at (machines c.kind) c.opening after.journal (length c.journal)))) out) (sym at)
            ∙ ap (λ (o : Outcome). Reply (decisions.Append position) (Some (Answered o)) out) reply;
        none = refl;
        calls = steps;
      }

  pub unrun : (place : Place) (stop : Stop) (before now : Seen) (replica : ReplicaPicture) → IsToRun stop → HasJoined machines c place clock request before →
      now.log ≡ before.log → replica.kind ≡ before.replica.kind → now.replica ≡ blanked replica → now.steps ≡ before.steps + calls_by stop → IsUnrun machines c clock request stop before.steps now
  unrun place stop before now replica to_run has log kind is steps = record {
    log = subst (LogStands machines after) (sym log) has.log;
    replica = blank_of c.kind replica now.replica after is (kind ∙ has.replica.kind) refl;
    to_run = to_run;
    calls = steps;
  }

-- ---- what changes nothing

-- the turn that the journal's word of the request makes
abbrev turn_of : (ℕ → Machine) → Common → Host → ℕ → ℕ → Request → Stop → Bool → Admission → Turn
turn_of machines c h host clock request stop fails a = admitted (machines c.kind) c h host (max clock c.time) request stop fails a

pub turns_told : (machines : ℕ → Machine) (c : Common) (h : Host) (host version clock : ℕ) (request : Request) (stop : Stop) (fails : Bool) (now : Seen) (a : Admission) (d : Decision) (x : Option Answer) →
    CanServe machines c h.place version request now → admission c.journal (max clock c.time) request ≡ a →
    turn_of machines c h host clock request stop fails a ≡ unchanged c h (Reply d x []) → IsTurn machines (served (machines c.kind) c h host clock request stop fails) (alone d x) now.steps now
turns_told machines c h host version clock request stop fails now a d x can is tells =
    subst (λ (t : Turn). IsTurn machines t (alone d x) now.steps now)
    (sym (ap (turn_of machines c h host clock request stop fails) is ∙ tells))
    (record { log = can.log; replica = can.replica; out = []; told = refl; none = refl; calls = omega arith })

admission_is : (x y : Admission) → admits.Admission x ≡ admits.Admission y → x ≡ y
admission_is x y h = cc

-- what the log says, the plain group says
pub says : LogsAdmit → (machines : ℕ → Machine) (c : Common) (place : Place) (version clock : ℕ) (request : Request) (now : Seen) (a : Admission) → CanServe machines c place version request now →
    admits.Admission a ≡ log_admitted now.log version clock request → admission c.journal (max clock c.time) request ≡ a
says law machines c place version clock request now a can is =
    sym (admission_is a (admission c.journal (max clock c.time) request) (is ∙ law machines c now.log can.log version clock request can.newest))

-- ---- an entry that is repeated

-- its reply is there
pub repeat_reply : LogsAdmit → CaughtUpRepeats → (machines : ℕ → Machine) (c : Common) (place : Place) (version clock : ℕ) (request : Request) (now : Seen) (i : ℕ) →
    CanServe machines c place version request now → admits.Admission (Same i) ≡ log_admitted now.log version clock request →
    reply_of now.log.table i ≡ Some (reply_at (machines c.kind) c.opening c.journal i)
repeat_reply law repeats machines c place version clock request now i can is =
    repeats machines c now.log now.replica place can.log can.replica can.caught_up clock i request
    (says law machines c place version clock request now (Same i) can is)

pub repeat_told : (machines : ℕ → Machine) (c : Common) (h : Host) (host version clock : ℕ) (request : Request) (stop : Stop) (now : Seen) (i : ℕ) (s : Served) →
    CanServe machines c h.place version request now → admission c.journal (max clock c.time) request ≡ Same i →
    IsTold (decisions.Repeat i) (Some (repeated (machines c.kind) c i)) s → IsServed machines c h host clock request stop s now now
repeat_told machines c h host version clock request stop now i NoMemory can is tells = inl refl
repeat_told machines c h host version clock request stop now i (Done replied) can is tells =
    subst (λ (r : Replied). IsTurn machines (served (machines c.kind) c h host clock request stop (shows_fault r.decision)) r now.steps now) (sym tells)
    (turns_told machines c h host version clock request stop false now (Same i) (decisions.Repeat i) (Some (repeated (machines c.kind) c i)) can is refl)

pub repeat_written : (i : ℕ) (x : Option Answer) (s : Served) (log : LogPicture) (version : Version) (clock : Tick) (request : Request) →
    IsTold (decisions.Repeat i) x s → IsWritten s log version clock request log
repeat_written i x NoMemory log version clock request tells = inl refl
repeat_written i x (Done replied) log version clock request tells = subst (λ (r : Replied). IsWrittenAs r.decision log version clock request log) (sym tells) refl

-- ---- a new request

-- the log with room for it
abbrev Reserves : LogPicture → LogPicture → Option Reserved → Type 0
Reserves old new reserved = new ≡ record old { reserved = reserved }

-- the keeper's picture of it
abbrev with_kept : LogPicture → Version → Tick → Request → LogPicture
with_kept log version clock request =
    kept (with_entry log version clock request) (log.records ++ entry_record (accepted_by log version clock request) ∷ []) (plan_after log.plan) log.faults

pub has_joined : LogsGoOnBeside → RequestsJoin → CaughtUpHasRun → (machines : ℕ → Machine) (c : Common) (place : Place) (version : Version) (clock : Tick) (request : Request)
    (now : Seen) (reserved after : LogPicture) (r : Option Reserved) → CanServe machines c place version.0 request now →
    log_admitted now.log version.0 clock.0 request ≡ admits.Admission New → Reserves now.log reserved r → after ≡ with_kept reserved version clock request →
    HasJoined machines c place clock.0 request (record now { log = after })
has_joined beside joins runs machines c place version clock request now reserved after r can new holds is =
    let log = now.log in
    let whole = joins machines c log can.log version clock request new can.fits can.short in
    let stands = beside machines (joined c (max clock.0 c.time) request) (with_entry log version clock request) whole
    None (log.records ++ entry_record (accepted_by log version clock request) ∷ []) (plan_after log.plan) log.faults in
    let same : after ≡ with_kept log version clock request = is ∙ ap (λ (p : LogPicture). with_kept p version clock request) holds in
    record {
      log = subst (LogStands machines (joined c (max clock.0 c.time) request)) (sym same) stands;
      replica = can.replica;
      caught_up = can.caught_up;
      ran = runs machines c log now.replica place can.log can.replica can.caught_up;
    }

pub position_is : (machines : ℕ → Machine) (c : Common) (reserved log : LogPicture) (r : Option Reserved) (i : ℕ) → Reserves log reserved r → length_of log ≡ length c.journal →
    i ≡ length_of reserved → i ≡ length c.journal
position_is machines c reserved log r i holds ends is = is ∙ ap length_of holds ∙ ends

-- one whose write failed left all as it was
pub failed_served : LogsGoOnBeside → (machines : ℕ → Machine) (c : Common) (h : Host) (host version clock : ℕ) (request : Request) (stop : Stop) (before : Seen)
    (reserved after : LogPicture) (r : Option Reserved) (records : List (List ℕ)) (plan : Option (List Bool)) (faults : ℕ) → CanServe machines c h.place version request before →
    admission c.journal (max clock c.time) request ≡ New → Reserves before.log reserved r → after ≡ kept reserved records plan faults →
    IsTurn machines (served (machines c.kind) c h host clock request stop true) (alone decisions.LogFault (Some (fault kinds.PersistStore 1 Maybe))) before.steps (record before { log = after })
failed_served beside machines c h host version clock request stop before reserved after r records plan faults can new holds is =
    let same : after ≡ kept before.log records plan faults = is ∙ ap (λ (p : LogPicture). kept p records plan faults) holds in
    turns_told machines c h host version clock request stop true (record before { log = after }) New decisions.LogFault (Some (fault kinds.PersistStore 1 Maybe))
    (record {
      log = subst (LogStands machines c) (sym same) (beside machines c before.log can.log None records plan faults);
      replica = can.replica;
      caught_up = can.caught_up;
      newest = can.newest;
      fits = can.fits;
      short = can.short;
    }) new refl

-- one that joined and ran was served
pub new_served : (machines : ℕ → Machine) (c : Common) (h : Host) (host clock position : ℕ) (request : Request) (stop : Stop) (s : Served) (before middle now : Seen) →
    admission c.journal (max clock c.time) request ≡ New → middle.steps ≡ before.steps → IsDecided (decisions.Append position) s →
    IsRun machines c h host clock request stop s middle now → IsServed machines c h host clock request stop s before now
new_served machines c h host clock position request stop NoMemory before middle now new steps decided ran =
    inr (new, subst (λ (n : ℕ). IsUnrun machines c clock request stop n now) steps ran)
new_served machines c h host clock position request stop (Done replied) before middle now new steps decided ran =
    let d = replied.decision in
    let no : shows_fault d ≡ false = ap shows_fault decided in
    let turn : served (machines c.kind) c h host clock request stop (shows_fault d) ≡ accepted (machines c.kind) c h host (max clock c.time) request stop =
    ap (λ (b : Bool). served (machines c.kind) c h host clock request stop b) no ∙ ap (turn_of machines c h host clock request stop false) new in
    subst (λ (t : Turn). IsTurn machines t replied before.steps now) (sym turn) (subst (λ (n : ℕ). IsTurn machines (accepted (machines c.kind) c h host (max clock c.time) request stop) replied n now) steps ran)
