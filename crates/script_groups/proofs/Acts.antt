-- A group at its opening, after an event, and where its next write is to fail.
use Rattle.std.proofs.Common.{◌≡◌, ℕ, ◌+◌, ◌≤◌, Bool, true, false, List, [], ◌∷◌, Some, refl, sym, ap, subst, ◌∙◌}
use Rattle.std.specs.Prelude.{◌&&◌, not, option_map}
use Rattle.ft_base.specs.Machine.{Machine}
use Rattle.ft_base.specs.declared.numbers.GroupId.{GroupId}
use Rattle.ft_base.specs.declared.views.Style.{Style}
use Rattle.ft_outside.specs.Keeping.{failing_next}
use Rattle.group_core.specs.Acting.{IsActed as CoreActed, IsTaken as CoreTaken}
use Rattle.group_core.specs.Cores.{CorePicture, Stands}
use Rattle.group_core.specs.Running.{is_short}
use Rattle.group_core.specs.Telling.{IsAsForetold, ShortCallsAreAsForetold, TurnsAreAsForetold, plan_of_next}
use Rattle.group_hosts.specs.Keeping.{WroteFor}
use Rattle.group_model.specs.declared.events.Event.{Event}
use Rattle.group_model.specs.declared.events.GroupAnswer.{GroupAnswer}
use Rattle.group_model.specs.declared.events.GroupAnswer.TheVariants as answers
use Rattle.group_model.specs.Agreeing.{Agrees}
use Rattle.group_model.specs.Events.{host_of, shows_fault, turn_of}
use Rattle.group_model.specs.Openings.{opening_group}
use Rattle.group_model.specs.Plain.{Group, put}
use Rattle.group_model.specs.Runs.{after_steps}
use Rattle.group_model.specs.Turns.{Turn}
use Rattle.group_model.specs.Laws as laws
use Rattle.shipped_servants.specs.Kinds.{machine_of_kind, number_of, opening_of}
use Rattle.shipped_servants.specs.declared.kinds.Kind.{Kind}
use Rattle.script_groups.specs.declared.happenings.Happening.TheVariants as happenings
use Rattle.script_groups.specs.Acting.{HasTurn, IsActed, MayCome, poisoned}
use Rattle.script_groups.specs.Groups.{ScriptGroup, acted, failing, group_of, is_failing, machine_of, opened, steps_of, turn}
use Rattle.script_groups.specs.Histories.{with_all}
use Rattle.script_groups.specs.Standing.{IsStanding}
use Rattle.script_groups.proofs.Going.{change_nothing, fails_acted, fails_failing, go_on, grow}

-- ---- at its opening

opens_as : (id : GroupId) (name : List ℕ) (kind : Kind) (style : Style) (members : List ℕ) →
    group_of (opened id name kind style members) ≡ opening_group id.0 style (number_of kind) (opening_of kind) members
unfolding group_of steps_of with_all after_steps
opens_as id name kind style members = refl

unfailing : (id : GroupId) (name : List ℕ) (kind : Kind) (style : Style) (members : List ℕ) → is_failing (opened id name kind style members) ≡ false
unfolding is_failing with_all
unfailing id name kind style members = refl

pub opens : (id : GroupId) (name : List ℕ) (kind : Kind) (style : Style) (members first : List ℕ) (its_kind : ℕ) (its_state : List ℕ) (core : CorePicture) →
    its_kind ≡ number_of kind → its_state ≡ opening_of kind → first ≡ members →
    Stands machine_of_kind core (opening_group id.0 style its_kind its_state members) → core.log.plan ≡ Some [] →
    IsStanding core (opened id name kind style first)
opens id name kind style members first its_kind its_state core is_kind is_state is_first stands plan =
    let now : Stands machine_of_kind core (opening_group id.0 style (number_of kind) (opening_of kind) first) =
    subst (λ (k : ℕ). Stands machine_of_kind core (opening_group id.0 style k (opening_of kind) first)) is_kind
    (subst (λ (s : List ℕ). Stands machine_of_kind core (opening_group id.0 style its_kind s first)) is_state
    (subst (λ (ms : List ℕ). Stands machine_of_kind core (opening_group id.0 style its_kind its_state ms)) (sym is_first) stands)) in
    record {
      core_stands = subst (Stands machine_of_kind core) (sym (opens_as id name kind style first)) now;
      kind = ap (λ (g : Group). g.common.kind) (opens_as id name kind style first);
      plan = plan ∙ ap plan_of_next (sym (unfailing id name kind style first));
    }

-- ---- after an event

short_is : (answer : GroupAnswer) → is_short answer ≡ true → answer ≡ answers.NoMemory
short_is answers.NoMemory e = refl
short_is (answers.Reply decision answer out) e = absurd cc
short_is (answers.Known version) e = absurd cc
short_is (answers.Applied n) e = absurd cc
short_is (answers.Held n) e = absurd cc
short_is (answers.Ignored cause) e = absurd cc
short_is (answers.Taken from position out) e = absurd cc
short_is (answers.Changed view out) e = absurd cc
short_is (answers.Refused fault) e = absurd cc
short_is answers.LogFault e = absurd cc
short_is answers.Down e = absurd cc
short_is answers.Up e = absurd cc

module _ (g : ScriptGroup) (e : Event) (core : CorePicture) (stands : IsStanding core g) (answer : GroupAnswer) (now : CorePicture) (before later : ℕ) (wrote : WroteFor e answer core.log now.log) where
  abbrev m : Machine
  m = machine_of g

  abbrev kinds_are : machine_of_kind (group_of g).common.kind ≡ machine_of g
  kinds_are = ap machine_of_kind stands.kind

  -- what its core did, as the group has it
  pub agrees_as : MayCome g e → Agrees (machine_of_kind (group_of g).common.kind) e (group_of g)
  agrees_as may = subst (λ m. Agrees m e (group_of g)) (sym kinds_are) may

  -- where memory was wanted
  pub short_acts : ShortCallsAreAsForetold → CoreActed machine_of_kind (group_of g) e answer now before later → is_short answer ≡ true → IsActed g e answer (poisoned g) before later
  short_acts law acted short =
      let is = short_is answer short in
      let it = subst (λ (a : GroupAnswer). CoreActed machine_of_kind (group_of g) e a now before later) is acted in
      let calls = law machine_of_kind core now (group_of g) e (is_failing g) before later stands.core_stands it (subst (λ (a : GroupAnswer). WroteFor e a core.log now.log) is wrote) stands.plan in
      subst (λ (a : GroupAnswer). IsActed g e a (poisoned g) before later) (sym is)
      (record { is = refl; calls = subst (λ m. later ≤ before + (turn_of m (group_of g) e (is_failing g)).calls) kinds_are calls })

  -- where it wasn't
  taken_as : is_short answer ≡ false → CoreActed machine_of_kind (group_of g) e answer now before later → CoreTaken machine_of_kind (group_of g) e answer now before later
  taken_as = go answer
    where
      go : (a : GroupAnswer) → is_short a ≡ false → CoreActed machine_of_kind (group_of g) e a now before later → CoreTaken machine_of_kind (group_of g) e a now before later
      go answers.NoMemory s h = absurd cc
      go (answers.Reply decision answer out) s h = h
      go (answers.Known version) s h = h
      go (answers.Applied n) s h = h
      go (answers.Held n) s h = h
      go (answers.Ignored cause) s h = h
      go (answers.Taken from position out) s h = h
      go (answers.Changed view out) s h = h
      go (answers.Refused fault) s h = h
      go answers.LogFault s h = h
      go answers.Down s h = h
      go answers.Up s h = h

  -- log, answer and calls are this turn's
  abbrev IsBy : Turn → Type 0
  IsBy t = Stands machine_of_kind now (record { common = t.common; hosts = put (group_of g).hosts (host_of e) t.host }) × (t.answer ≡ answer) × (later ≡ before + t.calls)

  shown_turn : is_short answer ≡ false → CoreActed machine_of_kind (group_of g) e answer now before later → IsBy (turn_of m (group_of g) e (shows_fault answer))
  shown_turn kept acted =
      let it = taken_as kept acted in
      subst (λ m. IsBy (turn_of m (group_of g) e (shows_fault answer))) kinds_are (it.stands, it.told, it.calls)

  acts_by : (x : ScriptGroup) → is_short answer ≡ false → HasTurn g e answer x before later → IsActed g e answer x before later
  acts_by x = go answer
    where
      go : (a : GroupAnswer) → is_short a ≡ false → HasTurn g e a x before later → IsActed g e a x before later
      go answers.NoMemory s h = absurd cc
      go (answers.Reply decision answer out) s h = h
      go (answers.Known version) s h = h
      go (answers.Applied n) s h = h
      go (answers.Held n) s h = h
      go (answers.Ignored cause) s h = h
      go (answers.Taken from position out) s h = h
      go (answers.Changed view out) s h = h
      go (answers.Refused fault) s h = h
      go answers.LogFault s h = h
      go answers.Down s h = h
      go answers.Up s h = h

  module _ (law : TurnsAreAsForetold) (core_acted : CoreActed machine_of_kind (group_of g) e answer now before later) (kept : is_short answer ≡ false) where
    foretold : IsAsForetold m (group_of g) e answer (is_failing g) now.log
    foretold = law m (group_of g) e answer (is_failing g) core.log now.log (shown_turn kept core_acted).1 wrote stands.plan

    its_turn : IsBy (turn g e)
    its_turn = subst IsBy foretold.turn (shown_turn kept core_acted)

    -- the group has had the event
    pub turn_acts : IsActed g e answer (acted g e) before later
    turn_acts = acts_by (acted g e) kept (record { is = refl; told = its_turn.1; calls = its_turn.2 })

    -- and its core stands for it
    pub stands_on : laws.GroupsGrow → IsStanding now (acted g e)
    stands_on grows = record {
      core_stands = subst (Stands machine_of_kind now) (sym (go_on g e)) its_turn.0;
      kind = (grow grows g (happenings.Event e ∷ [])).kind ∙ stands.kind;
      plan = foretold.plan ∙ ap (λ (a : GroupAnswer). plan_of_next (is_failing g && not (shows_fault a))) (sym its_turn.1) ∙ ap plan_of_next (sym (fails_acted g e));
    }

-- ---- where its next write is to fail

next_fails : (b : Bool) → option_map failing_next (plan_of_next b) ≡ plan_of_next true
next_fails true = refl
next_fails false = refl

pub stands_failing : (g : ScriptGroup) (core now : CorePicture) → IsStanding core g → Stands machine_of_kind now (group_of g) → now.log.plan ≡ option_map failing_next core.log.plan → IsStanding now (failing g)
stands_failing g core now stands core_stands plan =
    let same = (change_nothing g).0 in
    record {
      core_stands = subst (Stands machine_of_kind now) (sym same) core_stands;
      kind = ap (λ (x : Group). x.common.kind) same ∙ stands.kind;
      plan = plan ∙ ap (option_map failing_next) stands.plan ∙ next_fails (is_failing g) ∙ ap plan_of_next (sym (fails_failing g));
    }
