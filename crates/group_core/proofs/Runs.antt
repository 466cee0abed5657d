-- A run is its events, one after another.
use Rattle.std.proofs.Common.{◌≡◌, ℕ, ◌+◌, inl, inr, true, false, List, [], ◌∷◌, ◌++◌, append-nil, length, length-append, refl, sym, subst, ap, ◌∙◌, arith}
use Rattle.ft_base.specs.Machine.{Machine}
use Rattle.ft_base.specs.Laws.{Stays}
use Rattle.group_model.specs.declared.events.Event.{Event}
use Rattle.group_model.specs.declared.events.GroupAnswer.{GroupAnswer}
use Rattle.group_model.specs.declared.events.GroupAnswer.TheVariants as variants
use Rattle.group_model.specs.Agreeing.{Agrees, IsSound}
use Rattle.group_model.specs.Counting.{CallsAreCounted}
use Rattle.group_model.specs.Events.{turn_of, after_event, shows_fault}
use Rattle.group_model.specs.Laws.{GroupsGrow, GroupsStaySound, RepliesStay}
use Rattle.group_model.specs.Plain.{Group}
use Rattle.group_model.specs.Runs.{Step, after_step, after_steps, AllAgree, answers_to, calls_of}
use Rattle.group_core.specs.Acting.{IsActed, IsTaken, IsShort}
use Rattle.group_core.specs.Cores.{CorePicture, Stands}
use Rattle.group_core.specs.Running.{AlwaysAgree, steps_of, HasRun, GoesOn, HasStopped, is_short}

-- ---- one more step

steps_pushed : (done : List Event) (answers : List GroupAnswer) (e : Event) (a : GroupAnswer) → length answers ≡ length done →
    steps_of (done ++ e ∷ []) (answers ++ a ∷ []) ≡ steps_of done answers ++ record { event = e; fails = shows_fault a } ∷ []
unfolding steps_of
steps_pushed [] [] e a same = refl
steps_pushed [] (b ∷ answers) e a same = absurd (omega (arith, same))
steps_pushed (d ∷ done) [] e a same = absurd (omega (arith, same))
steps_pushed (d ∷ done) (b ∷ answers) e a same =
    ap (λ (steps : List Step). record { event = d; fails = shows_fault b } ∷ steps) (steps_pushed done answers e a (omega (arith, same)))

after_pushed : (m : Machine) (g : Group) (steps : List Step) (s : Step) → after_steps m g (steps ++ s ∷ []) ≡ after_step m (after_steps m g steps) s
unfolding after_steps
after_pushed m g [] s = refl
after_pushed m g (first ∷ steps) s = after_pushed m (after_step m g first) steps s

answers_pushed : (m : Machine) (g : Group) (steps : List Step) (s : Step) →
    answers_to m g (steps ++ s ∷ []) ≡ answers_to m g steps ++ (turn_of m (after_steps m g steps) s.event s.fails).answer ∷ []
unfolding after_steps answers_to
answers_pushed m g [] s = refl
answers_pushed m g (first ∷ steps) s = ap (λ (later : List GroupAnswer). (turn_of m g first.event first.fails).answer ∷ later) (answers_pushed m (after_step m g first) steps s)

calls_pushed : (m : Machine) (g : Group) (steps : List Step) (s : Step) →
    calls_of m g (steps ++ s ∷ []) ≡ calls_of m g steps + (turn_of m (after_steps m g steps) s.event s.fails).calls
unfolding after_steps calls_of
calls_pushed m g [] s = omega arith
calls_pushed m g (first ∷ steps) s = let e = calls_pushed m (after_step m g first) steps s in omega (arith, e)

-- ---- the events agree

rest_agrees : (m : Machine) (g : Group) (done rest : List Event) (answers : List GroupAnswer) → length answers ≡ length done → AlwaysAgree m g (done ++ rest) →
    AlwaysAgree m (after_steps m g (steps_of done answers)) rest
unfolding after_steps steps_of AlwaysAgree
rest_agrees m g [] rest answers same agree = agree
rest_agrees m g (e ∷ done) rest [] same agree = absurd (omega (arith, same))
rest_agrees m g (e ∷ done) rest (a ∷ answers) same agree = rest_agrees m (after_event m g e (shows_fault a)) done rest answers (omega (arith, same)) (agree.1 (shows_fault a))

done_agree : (m : Machine) (g : Group) (done rest : List Event) (answers : List GroupAnswer) → AlwaysAgree m g (done ++ rest) → AllAgree m g (steps_of done answers)
unfolding AllAgree steps_of AlwaysAgree
done_agree m g [] rest answers agree = tt
done_agree m g (e ∷ done) rest [] agree = tt
done_agree m g (e ∷ done) rest (a ∷ answers) agree = (agree.0, done_agree m (after_event m g e (shows_fault a)) done rest answers (agree.1 (shows_fault a)))

first_agrees : (m : Machine) (g : Group) (e : Event) (rest : List Event) → AlwaysAgree m g (e ∷ rest) → Agrees m e g
unfolding AlwaysAgree
first_agrees m g e rest agree = agree.0

-- the event between those done and those to come
pub event_between : (done : List Event) (e : Event) (rest : List Event) → (done ++ e ∷ []) ++ rest ≡ done ++ e ∷ rest
event_between [] e rest = refl
event_between (d ∷ done) e rest = ap (λ (es : List Event). d ∷ es) (event_between done e rest)

-- ---- the laws of the plain group

pub goes_on : GroupsStaySound → GroupsGrow → RepliesStay → CallsAreCounted → (m : Machine) → Stays m → (g : Group) (events : List Event) (answers : List GroupAnswer) → IsSound m g →
    AlwaysAgree m g events → GoesOn m g (steps_of events answers)
goes_on sounds grow replies calls m stays g events answers sound agree =
    let steps = steps_of events answers in
    let agrees : AllAgree m g steps = done_agree m g events [] answers (subst (AlwaysAgree m g) (sym (append-nil events)) agree) in
    record {
      once = (sounds m g steps stays sound agrees).common.journal.so.once;
      grows = grow m g steps;
      replies = replies m g steps;
      counted = calls m g steps sound.common.numbers.ran;
    }

-- ---- a run

pub none_run : (machines : ℕ → Machine) (g : Group) (core : CorePicture) (before : ℕ) → Stands machines core g → HasRun machines g [] [] core before before
unfolding after_steps answers_to calls_of steps_of
none_run machines g core before stands = record { stands = stands; whole = refl; told = refl; calls = omega arith }

module _ (all_grow : GroupsGrow) (machines : ℕ → Machine) (stays : (k : ℕ) → Stays (machines k)) (g : Group) (core : CorePicture) (stands : Stands machines core g)
    (done rest : List Event) (e : Event) (agree : AlwaysAgree (machines g.common.kind) g (done ++ e ∷ rest))
    (answers : List GroupAnswer) (now_core : CorePicture) (before now : ℕ) (ran : HasRun machines g done answers now_core before now) where
  abbrev m : Machine
  m = machines g.common.kind

  -- the group to which the event comes
  abbrev pub here : Group
  here = after_steps m g (steps_of done answers)

  same_kind : here.common.kind ≡ g.common.kind
  same_kind = (all_grow m g (steps_of done answers)).kind

  pub agrees_here : Agrees (machines here.common.kind) e here
  agrees_here = subst (λ (k : ℕ). Agrees (machines k) e here) (sym same_kind) (first_agrees m here e rest (rest_agrees m g done (e ∷ rest) answers ran.whole agree))

  ran_on : (a : GroupAnswer) (later_core : CorePicture) (later : ℕ) → IsTaken machines here e a later_core now later →
      HasRun machines g (done ++ e ∷ []) (answers ++ a ∷ []) later_core before later
  ran_on a later_core later taken =
      let step : Step = record { event = e; fails = shows_fault a } in
      let steps = steps_pushed done answers e a ran.whole in
      let there : Stands machines later_core (after_event m here e (shows_fault a)) =
      subst (λ (k : ℕ). Stands machines later_core (after_event (machines k) here e (shows_fault a))) same_kind taken.stands in
      let said : (turn_of m here e (shows_fault a)).answer ≡ a = subst (λ (k : ℕ). (turn_of (machines k) here e (shows_fault a)).answer ≡ a) same_kind taken.told in
      let called : later ≡ now + (turn_of m here e (shows_fault a)).calls =
      subst (λ (k : ℕ). later ≡ now + (turn_of (machines k) here e (shows_fault a)).calls) same_kind taken.calls in
      let counted = calls_pushed m g (steps_of done answers) step in
      record {
        stands = subst (λ (it : Group). Stands machines later_core it) (sym (after_pushed m g (steps_of done answers) step) ∙ ap (λ (s : List Step). after_steps m g s) (sym steps)) there;
        whole = let u = length-append answers (a ∷ []) in let v = length-append done (e ∷ []) in omega (arith, u, v, ran.whole);
        told = ap (λ (s : List Step). answers_to m g s) steps ∙ answers_pushed m g (steps_of done answers) step
            ∙ ap (λ (told : List GroupAnswer). told ++ (turn_of m here e (shows_fault a)).answer ∷ []) ran.told
            ∙ ap (λ (b : GroupAnswer). answers ++ b ∷ []) said;
        calls = called ∙ ap (λ (n : ℕ). n + (turn_of m here e (shows_fault a)).calls) ran.calls ∙ omega (arith, counted) ∙ ap (λ (s : List Step). before + calls_of m g s) (sym steps);
      }

  pub one_run : (a : GroupAnswer) (later_core : CorePicture) (later : ℕ) → is_short a ≡ false → IsActed machines here e a later_core now later →
      HasRun machines g (done ++ e ∷ []) (answers ++ a ∷ []) later_core before later
  one_run variants.NoMemory later_core later no_short acted = cc
  one_run a later_core later no_short acted = ran_on a later_core later acted

  -- ---- where memory was wanted

  pub stopped_between : HasStopped machines g (done ++ e ∷ rest) now_core before now
  stopped_between = record { done = done; next = e; rest = rest; are = refl; answers = answers; whole = ran.whole; told = ran.told; left = inl (ran.stands, ran.calls) }

  pub stopped_within : (a : GroupAnswer) (later_core : CorePicture) (later : ℕ) → is_short a ≡ true → IsActed machines here e a later_core now later →
      HasStopped machines g (done ++ e ∷ rest) later_core before later
  stopped_within variants.NoMemory later_core later so acted = record {
    done = done;
    next = e;
    rest = rest;
    are = refl;
    answers = answers;
    whole = ran.whole;
    told = ran.told;
    left = inr (subst (λ (n : ℕ). IsShort machines here e later_core n later) ran.calls acted);
  }
  stopped_within a later_core later so acted = cc
