-- What happens to a group next, and what the plain group's laws say of it.
use Rattle.std.proofs.Common.{◌≡◌, ◌+◌, ◌≤◌, arith, true, List, [], ◌∷◌, ◌++◌, append_assoc, refl, sym, ap, subst, ◌∙◌}
use Rattle.std.specs.Prelude.{◌&&◌, not}
use Rattle.std.specs.List.{AllByRecursion}
use Rattle.ft_base.specs.Journal.{IsJournal, reply_at}
use Rattle.ft_base.specs.Laws.{Stays}
use Rattle.ft_base.specs.Machine.{Machine}
use Rattle.group_model.specs.declared.events.Event.{Event}
use Rattle.group_model.specs.Agreeing.{Agrees, IsSound}
use Rattle.group_model.specs.Events.{turn_of, shows_fault}
use Rattle.group_model.specs.Plain.{Group}
use Rattle.group_model.specs.Runs.{Step, AllAgree, after_step, after_steps, calls_of}
use Rattle.group_model.specs.Laws as laws
use Rattle.group_model.specs.Counting as counting
use Rattle.group_model.specs.Sending as sending
use Rattle.group_model.specs.Answering as answering
use Rattle.shipped_servants.specs.Kinds.{number_of}
use Rattle.shipped_servants.specs.Laws.{stays, gives}
use Rattle.script_groups.specs.declared.happenings.Happening.{Happening}
use Rattle.script_groups.specs.declared.happenings.Happening.TheVariants as happenings
use Rattle.script_groups.specs.Acting.{IsSoundGroup, MayCome}
use Rattle.script_groups.specs.Groups.{ScriptGroup, acted, common_of, failing, group_of, history_of, is_failing, machine_of, opening_of_group, servant_calls, steps_of, turn, with_more}
use Rattle.script_groups.specs.Histories.{History, none_yet, with_all, with_event, with_happening}
use Rattle.script_groups.specs.Laws.{AnswersAreInForm, CallsAreCounted, CallsGoOn, EventsLast, FailingLetsCome, FailingStaysSound, FailuresChangeNothing, FailuresComeOnce, GroupsGrow, GroupsStaySound, HistoriesGoOn, JournalsAcceptOnce, NoneCalledYet, RepliesStay, SentMayCome}

-- ---- the history goes on

all_more : (m : Machine) (o : Group) (h : History) (hs more : List Happening) → with_all m o h (hs ++ more) ≡ with_all m o (with_all m o h hs) more
unfolding with_all
all_more m o h [] more = refl
all_more m o h (x ∷ hs) more = all_more m o (with_happening m o h x) hs more

history_acted : (g : ScriptGroup) (e : Event) → history_of (acted g e) ≡ with_event (machine_of g) (opening_of_group g) (history_of g) e
unfolding with_all
history_acted g e = all_more (machine_of g) (opening_of_group g) none_yet g.happenings (happenings.Event e ∷ [])

history_failing : (g : ScriptGroup) → history_of (failing g) ≡ record (history_of g) { fails = true }
unfolding with_all
history_failing g = all_more (machine_of g) (opening_of_group g) none_yet g.happenings (happenings.FailNext ∷ [])

-- an event as a step
abbrev step_by : ScriptGroup → Event → Step
step_by g e = record { event = e; fails = is_failing g }

steps_acted : (g : ScriptGroup) (e : Event) → steps_of (acted g e) ≡ steps_of g ++ step_by g e ∷ []
unfolding steps_of is_failing
steps_acted g e = ap (λ (h : History). h.steps) (history_acted g e)

pub fails_acted : (g : ScriptGroup) (e : Event) → is_failing (acted g e) ≡ is_failing g && not (shows_fault (turn g e).answer)
unfolding steps_of is_failing group_of
fails_acted g e = ap (λ (h : History). h.fails) (history_acted g e)

-- ---- one more event

last_step : (m : Machine) (g : Group) (ss : List Step) (s : Step) → after_steps m g (ss ++ s ∷ []) ≡ after_step m (after_steps m g ss) s
unfolding after_steps
last_step m g [] s = refl
last_step m g (t ∷ ss) s = last_step m (after_step m g t) ss s

pub go_on : HistoriesGoOn
unfolding group_of
go_on g e =
    ap (after_steps (machine_of g) (opening_of_group g)) (steps_acted g e)
    ∙ last_step (machine_of g) (opening_of_group g) (steps_of g) (step_by g e)

-- ---- laws over lists of events, at one event

one_agrees : (m : Machine) (g : Group) (s : Step) → Agrees m s.event g → AllAgree m g (s ∷ [])
unfolding AllAgree
one_agrees m g s agrees = (agrees, tt)

one_after : (m : Machine) (g : Group) (s : Step) → after_steps m g (s ∷ []) ≡ after_step m g s
unfolding after_steps
one_after m g s = refl

stay : (g : ScriptGroup) → Stays (machine_of g)
stay g = stays (number_of g.kind)

-- the group after the event, as a law has it and as the history has it
onward : (P : Machine → Group → Group → Type 0) → laws.Onward P → (g : ScriptGroup) (e : Event) → IsSoundGroup g → MayCome g e →
    P (machine_of g) (group_of g) (group_of (acted g e))
onward P law g e sound agrees =
    let m = machine_of g in
    subst (λ (after : Group). P m (group_of g) after) (one_after m (group_of g) (step_by g e) ∙ sym (go_on g e))
    (law m (group_of g) (step_by g e ∷ []) (stay g) sound (one_agrees m (group_of g) (step_by g e) agrees))

pub stay_sound : laws.GroupsStaySound → GroupsStaySound
stay_sound law g e sound agrees = onward (λ m g after. IsSound m after) law g e sound agrees

-- ---- laws over whatever happens

steps_on : (m : Machine) (g : Group) (ss more : List Step) → after_steps m g (ss ++ more) ≡ after_steps m (after_steps m g ss) more
unfolding after_steps
steps_on m g [] more = refl
steps_on m g (s ∷ ss) more = steps_on m (after_step m g s) ss more

none_more : (ss : List Step) → ss ++ [] ≡ ss
none_more [] = refl
none_more (s ∷ ss) = ap (λ (ts : List Step). s ∷ ts) (none_more ss)

-- whatever more happens, there are only more steps
steps_more : (m : Machine) (o : Group) (h : History) (more : List Happening) → (steps : List Step) × ((with_all m o h more).steps ≡ h.steps ++ steps)
unfolding with_all
steps_more m o h [] = ([], sym (none_more h.steps))
steps_more m o h (happenings.Event e ∷ more) =
    let s : Step = record { event = e; fails = h.fails } in
    let rest = steps_more m o (with_event m o h e) more in
    (s ∷ rest.0, rest.1 ∙ append_assoc h.steps (s ∷ []) rest.0)
steps_more m o h (happenings.FailNext ∷ more) = steps_more m o (record h { fails = true }) more

more_on : (g : ScriptGroup) (more : List Happening) → (steps : List Step) × (group_of (with_more g more) ≡ after_steps (machine_of g) (group_of g) steps)
unfolding group_of steps_of
more_on g more =
    let m = machine_of g in
    let o = opening_of_group g in
    let here = steps_more m o (history_of g) more in
    let all = ap (λ (h : History). h.steps) (all_more m o none_yet g.happenings more) ∙ here.1 in
    (here.0, ap (after_steps m o) all ∙ steps_on m o (history_of g).steps here.0)

pub grow : laws.GroupsGrow → GroupsGrow
grow law g more =
    let on = more_on g more in
    subst (λ (after : Group). laws.Grows (common_of g) after.common) (sym on.1) (law (machine_of g) (group_of g) on.0)

pub replies_stay : laws.RepliesStay → RepliesStay
replies_stay law g more i lt =
    let on = more_on g more in
    ap (λ (after : Group). reply_at (machine_of g) after.common.opening after.common.journal i) on.1
    ∙ law (machine_of g) (group_of g) on.0 i lt

none_journal : IsJournal 0 []
none_journal = record {
  before = λ i entry at. absurd cc;
  ticks = λ i j early late le at. absurd cc;
  once = record { in_time = λ i entry key at is. absurd cc; apart = λ i j early late first second lt at. absurd cc };
}

pub accept_once : laws.JournalsStay → JournalsAcceptOnce
unfolding group_of
accept_once law g = (law (machine_of g) (opening_of_group g) (steps_of g) none_journal).once

calls_on : (m : Machine) (g : Group) (ss : List Step) (s : Step) →
    calls_of m g (ss ++ s ∷ []) ≡ calls_of m g ss + (turn_of m (after_steps m g ss) s.event s.fails).calls
unfolding calls_of after_steps
calls_on m g [] s = omega arith
calls_on m g (t ∷ ss) s = let more = calls_on m (after_step m g t) ss s in omega (arith, more)

pub calls_go_on : CallsGoOn
unfolding servant_calls group_of
calls_go_on g e =
    ap (calls_of (machine_of g) (opening_of_group g)) (steps_acted g e)
    ∙ calls_on (machine_of g) (opening_of_group g) (steps_of g) (step_by g e)

pub none_called : NoneCalledYet
unfolding servant_calls calls_of steps_of with_all
none_called id name kind style members = refl

pub calls_counted : counting.CallsAreCounted → CallsAreCounted
unfolding servant_calls
calls_counted law g = law (machine_of g) (opening_of_group g) (steps_of g) (let none : 0 ≤ 0 = omega arith in none)

pub last : laws.AgreementLasts → EventsLast
last law g e other sound agrees lasts may =
    onward (λ m g after. (e : Event) → laws.Lasts e → Agrees m e g → Agrees m e after) law g e sound agrees other lasts may

pub sent : sending.WhatIsSentAgrees → SentMayCome
sent law g e sound agrees =
    let m = machine_of g in
    subst (λ (after : Group). AllByRecursion (λ out. Agrees m (sending.brought out) after) (sending.sent_by (turn g e).answer)) (sym (go_on g e))
    (law m (group_of g) e (is_failing g) sound agrees)

pub in_form : answering.AnswersAreGiven → AnswersAreInForm
in_form law g host clock asked stop decision answer out sound agrees is =
    let m = machine_of g in
    let e = Rattle.group_model.specs.declared.events.Event.TheVariants.Request host clock asked stop in
    subst (λ (after : Group). answering.IsAnswered m after.common asked.op answer) (sym (go_on g e))
    (law m (group_of g) (is_failing g) host clock asked stop decision answer out (stay g) (gives (number_of g.kind)) sound agrees is)

-- ---- a failure of the next write

steps_failing : (g : ScriptGroup) → steps_of (failing g) ≡ steps_of g
unfolding steps_of
steps_failing g = ap (λ (h : History). h.steps) (history_failing g)

pub fails_failing : (g : ScriptGroup) → is_failing (failing g) ≡ true
unfolding is_failing
fails_failing g = ap (λ (h : History). h.fails) (history_failing g)

pub change_nothing : FailuresChangeNothing
unfolding group_of servant_calls
change_nothing g = (ap (after_steps (machine_of g) (opening_of_group g)) (steps_failing g), ap (calls_of (machine_of g) (opening_of_group g)) (steps_failing g))

pub failing_sound : FailingStaysSound
failing_sound g sound = subst (IsSound (machine_of g)) (sym (change_nothing g).0) sound

pub failing_lets_come : FailingLetsCome
failing_lets_come g e may = subst (Agrees (machine_of g) e) (sym (change_nothing g).0) may

pub come_once : FailuresComeOnce
come_once g = (fails_failing g, fails_acted g)
