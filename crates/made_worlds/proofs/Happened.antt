-- The group of a made script after what has happened to it.
use Rattle.std.proofs.Common.{◌≡◌, ℕ, ◌+◌, Bool, true, false, if◌then◌else◌, List, [], ◌∷◌, ◌++◌, Option, refl, ap, sym, subst, ◌∙◌, codes, lit≤}
use Rattle.std.specs.Prelude.{◌&&◌, nat_eq, not}
use Rattle.std.proofs.lemmas.Bool.{eqb-true}
use Rattle.ft_base.specs.declared.decisions.Stop.TheVariants.{Never}
use Rattle.ft_base.specs.declared.numbers.HostNo.{HostNo}
use Rattle.ft_base.specs.declared.numbers.Tick.{Tick}
use Rattle.ft_base.specs.declared.requests.Key.{Key}
use Rattle.ft_base.specs.declared.views.Style.TheVariants.{Warm}
use Rattle.ft_base.specs.declared.views.View.{View}
use Rattle.group_model.specs.Events.{after_event, host_of, turn_of, shows_fault}
use Rattle.group_model.specs.Plain.{Group, put}
use Rattle.group_model.specs.Runs.{after_steps}
use Rattle.group_model.specs.Sending.{brought_to_host}
use Rattle.group_model.specs.Turns.{Turn}
use Rattle.group_model.specs.Views.{host_no, sent_to, version}
use Rattle.group_model.specs.declared.asking.Asked.{Asked}
use Rattle.group_model.specs.declared.changes.Change.TheVariants.{Report}
use Rattle.group_model.specs.declared.events.Event.{Event}
use Rattle.group_model.specs.declared.events.Event.TheVariants as events
use Rattle.group_model.specs.declared.events.GroupAnswer.TheVariants as answers
use Rattle.group_model.specs.declared.events.Inner.{Inner}
use Rattle.group_model.specs.declared.events.Inner.TheVariants as inners
use Rattle.script_groups.specs.Groups.{ScriptGroup, group_of, is_failing, steps_of, turn}
use Rattle.script_groups.specs.Histories.{with_all}
use Rattle.script_groups.specs.Laws.{FailuresComeOnce, HistoriesGoOn}
use Rattle.script_groups.specs.declared.happenings.Happening.{Happening}
use Rattle.script_groups.specs.declared.happenings.Happening.TheVariants as happenings
use Rattle.servant_account.specs.Account.{account_machine}
use Rattle.shipped_servants.specs.declared.kinds.Kind.TheVariants.{Account}
use Rattle.made_worlds.proofs.Bank.{IsAwake, IsBank, IsEnded, served}
use Rattle.made_worlds.proofs.Turns.{IsLight, IsTaken, asked_of, balance_of, balance_passes, checkpoint_taken, deposit_of, deposit_passes, IsStill, given, reported, update_sent, view_1, view_2, view_common, view_known}

-- the script's group, to which this has happened
abbrev pub bank_after : List Happening → ScriptGroup
bank_after past = record {
  id = record { 0 = 1 };
  name = codes "bank";
  kind = Account;
  style = Warm;
  members = 0 ∷ 1 ∷ 2 ∷ [];
  happenings = past;
  poisoned = false;
}

-- an event more
abbrev pub more : List Happening → Event → List Happening
more past e = past ++ happenings.Event e ∷ []

-- the laws of what happens to a group
pub record Laws : Type 0 where
  pub go_on : HistoriesGoOn
  pub once : FailuresComeOnce

-- ---- what the group is like

-- its first primary leads it, and another member knows that view
pub record IsLed (most : ℕ) (g : Group) : Type 0 where
  pub group : IsBank (view_1 ∷ []) most g.common
  pub primary : IsAwake 1 (g.hosts 0)
  pub second : IsAwake 1 (g.hosts 1)

-- its primary is gone, and the next one knows this view
pub record IsLeft (views : List View) (most known : ℕ) (g : Group) : Type 0 where
  pub group : IsBank views most g.common
  pub second : IsAwake known (g.hosts 1)

-- none of its log's writes is to fail, and it is like this
pub record Serves (P : Group → Type 0) (past : List Happening) : Type 0 where
  pub unfailing : is_failing (bank_after past) ≡ false
  pub is : P (group_of (bank_after past))

-- ---- one event more

-- the turn that the group takes
abbrev pub turn_at : List Happening → Event → Turn
turn_at past e = turn_of account_machine (group_of (bank_after past)) e false

pub turns : (P : Group → Type 0) (past : List Happening) (e : Event) → Serves P past → turn (bank_after past) e ≡ turn_at past e
turns P past e s = ap (λ (fails : Bool). turn_of account_machine (group_of (bank_after past)) e fails) s.unfailing

-- and what it is like then
goes_on : Laws → (P Q : Group → Type 0) (past : List Happening) (e : Event) → Serves P past →
    Q (after_event account_machine (group_of (bank_after past)) e false) → Serves Q (more past e)
goes_on laws P Q past e s q = record {
  unfailing = (laws.once (bank_after past)).1 e ∙ ap (λ (fails : Bool). fails && not (shows_fault (turn (bank_after past) e).answer)) s.unfailing;
  is = subst Q (sym (laws.go_on (bank_after past) e ∙ ap (λ (fails : Bool). after_event account_machine (group_of (bank_after past)) e fails) s.unfailing)) q;
}

-- the group opens so
pub opens : Serves (IsLed 0) []
unfolding group_of is_failing steps_of with_all after_steps
opens = record {
  unfailing = refl;
  is = record {
    group = record { style = refl; views_are = refl; opening = refl; few = lit≤ tt };
    primary = record { up = refl; knows = refl };
    second = record { up = refl; knows = refl };
  };
}

-- a deposit comes to the primary
pub record Deposited (most : ℕ) (past : List Happening) (e : Event) : Type 0 where
  pub answer : IsEnded (turn (bank_after past) e).answer
  pub serves : Serves (IsLed (most + 1)) (more past e)

abbrev pub request : ℕ → Tick → Asked → Event
request host clock asked = events.Request (host_no host) clock asked Never

pub deposited : Laws → (most : ℕ) (past : List Happening) (clock : Tick) (key : Option Key) (amount : ℕ) → Serves (IsLed most) past →
    Deposited most past (request 0 clock (asked_of 1 (deposit_of key amount)))
deposited laws most past clock key amount s =
    let e = request 0 clock (asked_of 1 (deposit_of key amount)) in
    let g = group_of (bank_after past) in
    let passes = deposit_passes g.common key amount s.is.group.style s.is.group.views_are in
    let t = served (view_1 ∷ []) most 1 g.common (g.hosts 0) (host_no 0) clock (asked_of 1 (deposit_of key amount)) passes.0 s.is.group s.is.primary refl refl passes.1 in
    record {
      answer = subst (λ (t : Turn). IsEnded t.answer) (sym (turns (IsLed most) past e s)) t.answer;
      serves = goes_on laws (IsLed most) (IsLed (most + 1)) past e s (record { group = t.group; primary = t.host; second = s.is.second });
    }

-- ---- states and updates

-- the primary sends its state, or what is new of it
pub record Transferred (most : ℕ) (past : List Happening) (e : Event) : Type 0 where
  pub answer : IsTaken (turn (bank_after past) e).answer
  pub serves : Serves (IsLed most) (more past e)

pub checkpointed : Laws → (most : ℕ) (past : List Happening) (clock : Tick) → Serves (IsLed most) past → Transferred most past (events.Checkpoint (host_no 0) clock)
checkpointed laws most past clock s =
    let e = events.Checkpoint (host_no 0) clock in
    let g = group_of (bank_after past) in
    let t = checkpoint_taken most g.common (g.hosts 0) clock s.is.group s.is.primary in
    record {
      answer = subst (λ (t : Turn). IsTaken t.answer) (sym (turns (IsLed most) past e s)) t.answer;
      serves = goes_on laws (IsLed most) (IsLed most) past e s (record { group = t.group; primary = t.host; second = s.is.second });
    }

pub updated : Laws → (most : ℕ) (past : List Happening) → Serves (IsLed most) past → Transferred most past (events.SendUpdate (host_no 0))
updated laws most past s =
    let e = events.SendUpdate (host_no 0) in
    let g = group_of (bank_after past) in
    let t = update_sent most g.common (g.hosts 0) s.is.group s.is.primary in
    record {
      answer = subst (λ (t : Turn). IsTaken t.answer) (sym (turns (IsLed most) past e s)) t.answer;
      serves = goes_on laws (IsLed most) (IsLed most) past e s (record { group = t.group; primary = t.host; second = s.is.second });
    }

-- it comes to a member
pub came : Laws → (most : ℕ) (past : List Happening) (carried : Inner) (to : HostNo) → IsLight carried → Serves (IsLed most) past →
    Serves (IsLed most) (more past (brought_to_host to carried))
came laws most past carried to light s =
    goes_on laws (IsLed most) (IsLed most) past e s
    (record { group = subst (IsBank (view_1 ∷ []) most) (sym still.common) s.is.group; primary = stays 0 s.is.primary; second = stays 1 s.is.second })
  where
    g : Group
    g = group_of (bank_after past)

    e : Event
    e = brought_to_host to carried

    still : IsStill g.common (g.hosts (host_of e)) (turn_at past e)
    still = given g.common (g.hosts (host_of e)) carried to light

    stays : (i : ℕ) → IsAwake 1 (g.hosts i) → IsAwake 1 (put g.hosts (host_of e) (turn_at past e).host i)
    stays i awake = go (nat_eq i (host_of e)) refl
      where
        go : (b : Bool) → nat_eq i (host_of e) ≡ b → IsAwake 1 (if b then (turn_at past e).host else g.hosts i)
        go false apart = awake
        go true same =
            let at : host_of e ≡ i = sym (eqb-true i (host_of e) same) in
            record { up = still.up ∙ ap (λ (j : ℕ). (g.hosts j).up) at ∙ awake.up; knows = still.known ∙ ap (λ (j : ℕ). (g.hosts j).known) at ∙ awake.knows }

-- ---- the ending

-- the primary goes down
pub crashed : Laws → (most : ℕ) (past : List Happening) → Serves (IsLed most) past → Serves (IsLeft (view_1 ∷ []) most 1) (more past (events.Crash (host_no 0)))
crashed laws most past s =
    goes_on laws (IsLed most) (IsLeft (view_1 ∷ []) most 1) past (events.Crash (host_no 0)) s (record { group = s.is.group; second = s.is.second })

-- it is reported
pub record Reported (most : ℕ) (past : List Happening) (e : Event) : Type 0 where
  pub answer : (turn (bank_after past) e).answer ≡ answers.Changed view_2 (sent_to (0 ∷ 1 ∷ 2 ∷ []) (inners.View (version 2)))
  pub serves : Serves (IsLeft (view_1 ∷ view_2 ∷ []) most 1) (more past e)

abbrev pub report : Event
report = events.Manage (Report (host_no 0))

pub was_reported : Laws → (most : ℕ) (past : List Happening) → Serves (IsLeft (view_1 ∷ []) most 1) past → Reported most past report
was_reported laws most past s =
    let g = group_of (bank_after past) in
    let t = reported most g.common (g.hosts 0) s.is.group in
    record {
      answer = ap (λ (t : Turn). t.answer) (turns (IsLeft (view_1 ∷ []) most 1) past report s) ∙ t.answer;
      serves = goes_on laws (IsLeft (view_1 ∷ []) most 1) (IsLeft (view_1 ∷ view_2 ∷ []) most 1) past report s (record { group = t.group; second = s.is.second });
    }

-- the others hear of it
pub heard_second : Laws → (most : ℕ) (past : List Happening) → Serves (IsLeft (view_1 ∷ view_2 ∷ []) most 1) past →
    Serves (IsLeft (view_1 ∷ view_2 ∷ []) most 2) (more past (events.View (host_no 1) (version 2)))
heard_second laws most past s =
    let g = group_of (bank_after past) in
    goes_on laws (IsLeft (view_1 ∷ view_2 ∷ []) most 1) (IsLeft (view_1 ∷ view_2 ∷ []) most 2) past (events.View (host_no 1) (version 2)) s
    (record {
      group = subst (IsBank (view_1 ∷ view_2 ∷ []) most) (sym (view_common g.common (g.hosts 1) (host_no 1) (version 2))) s.is.group;
      second = view_known g.common (g.hosts 1) (host_no 1) s.is.second;
    })

pub heard_third : Laws → (most : ℕ) (past : List Happening) → Serves (IsLeft (view_1 ∷ view_2 ∷ []) most 2) past →
    Serves (IsLeft (view_1 ∷ view_2 ∷ []) most 2) (more past (events.View (host_no 2) (version 2)))
heard_third laws most past s =
    let g = group_of (bank_after past) in
    goes_on laws (IsLeft (view_1 ∷ view_2 ∷ []) most 2) (IsLeft (view_1 ∷ view_2 ∷ []) most 2) past (events.View (host_no 2) (version 2)) s
    (record {
      group = subst (IsBank (view_1 ∷ view_2 ∷ []) most) (sym (view_common g.common (g.hosts 2) (host_no 2) (version 2))) s.is.group;
      second = s.is.second;
    })

-- the next primary is asked for the balance
pub record LastAsked (most : ℕ) (past : List Happening) (e : Event) : Type 0 where
  pub answer : IsEnded (turn (bank_after past) e).answer
  pub serves : Serves (IsLeft (view_1 ∷ view_2 ∷ []) (most + 1) 2) (more past e)

pub asked_last : Laws → (most : ℕ) (past : List Happening) (clock : Tick) (key : Option Key) → Serves (IsLeft (view_1 ∷ view_2 ∷ []) most 2) past →
    LastAsked most past (request 1 clock (asked_of 2 (balance_of key)))
asked_last laws most past clock key s =
    let asked = asked_of 2 (balance_of key) in
    let e = request 1 clock asked in
    let g = group_of (bank_after past) in
    let passes = balance_passes g.common key s.is.group.style s.is.group.views_are in
    let t = served (view_1 ∷ view_2 ∷ []) most 2 g.common (g.hosts 1) (host_no 1) clock asked passes.0 s.is.group s.is.second refl refl passes.1 in
    record {
      answer = subst (λ (t : Turn). IsEnded t.answer) (sym (turns (IsLeft (view_1 ∷ view_2 ∷ []) most 2) past e s)) t.answer;
      serves = goes_on laws (IsLeft (view_1 ∷ view_2 ∷ []) most 2) (IsLeft (view_1 ∷ view_2 ∷ []) (most + 1) 2) past e s (record { group = t.group; second = t.host });
    }
