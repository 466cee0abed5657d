-- What each kind of call leaves of a book.
use Rattle.std.proofs.Common.{◌≡◌, ℕ, ◌+◌, ◌≤◌, List, [], ◌∷◌, ◌++◌, length, Option, Some, refl, sym, subst, ap, ◌∙◌, inl, inr, arith}
use Rattle.ft_base.specs.Machine.{Machine, gives_of}
use Rattle.ft_base.specs.declared.numbers.HostNo.{HostNo}
use Rattle.ft_base.specs.declared.numbers.Tick.{Tick}
use Rattle.ft_base.specs.declared.requests.Par.{Par}
use Rattle.ft_base.specs.declared.views.View.{View}
use Rattle.group_model.specs.declared.asking.Asked.{Asked}
use Rattle.group_model.specs.declared.events.Event.{Event}
use Rattle.group_model.specs.declared.events.Event.TheVariants as events
use Rattle.group_model.specs.declared.events.GroupAnswer.{GroupAnswer}
use Rattle.group_model.specs.declared.events.GroupAnswer.TheVariants as answers
use Rattle.group_model.specs.declared.events.Out.{Out}
use Rattle.group_model.specs.Agreeing.{Agrees, IsSound}
use Rattle.group_model.specs.Amounts.{FewAreSent, most_sent}
use Rattle.group_model.specs.Asking.{signature_asked}
use Rattle.group_model.specs.Lean.{nothing}
use Rattle.group_model.specs.Plain.{Group}
use Rattle.group_model.specs.Sending.{brought, sent_by}
use Rattle.group_model.specs.Steps.{IsStep}
use Rattle.group_model.specs.Takers.{TakersMayTake, taker}
use Rattle.group_core.specs.Cores.{CorePicture, Stands}
use Rattle.shared_group.specs.declared.calls.Call.TheVariants as calls
use Rattle.shared_group.specs.declared.calls.CallAnswer.{CallAnswer}
use Rattle.shared_group.specs.declared.calls.CallAnswer.TheVariants as told
use Rattle.shared_group.specs.declared.calls.QueuedAnswer.{QueuedAnswer}
use Rattle.std.specs.Prelude.{Result, IfOk}
use Rattle.ft_base.specs.declared.memory.NoMemory.{NoMemory}
use Rattle.group_looks.specs.declared.figures.Figures.{Figures}
use Rattle.group_looks.specs.Looks.{AreFigures}
use Rattle.shared_group.specs.Books.{BookPicture, DoesFor, IsEntered, IsPut, entered, looked, without_room}
use Rattle.shared_group.specs.Shared.{AllMayCome, Carries, HandsOut, Shared, Takes, answered, asking, version_named, view_with, without_out}
use Rattle.shared_group.proofs.Going.{few_sent}

-- no memory: nothing was done
pub short_step : (m : Machine) (g : Group) (e : Event) → IsSound m g → Agrees m e g → IsStep m g e answers.NoMemory g
short_step m g e sound agrees = record { sound = sound; agrees = agrees; leads = nothing refl }

pub same_version : (answer : GroupAnswer) → version_named (without_out answer) ≡ version_named answer
same_version (answers.Reply decision answer out) = refl
same_version (answers.Known version) = refl
same_version (answers.Applied n) = refl
same_version (answers.Held n) = refl
same_version (answers.Ignored cause) = refl
same_version (answers.Taken from position out) = refl
same_version (answers.Changed view out) = refl
same_version (answers.Refused fault) = refl
same_version answers.LogFault = refl
same_version answers.Down = refl
same_version answers.Up = refl
same_version answers.NoMemory = refl

-- there is room for what an event sent
pub room_for : FewAreSent → (m : Machine) (g after : Group) (e : Event) (answer : GroupAnswer) (room capacity : ℕ) → IsStep m g e answer after → most_sent e ≤ 16 → room + 16 ≤ capacity
    → room + length (sent_by answer) ≤ capacity
room_for few m g after e answer room capacity step most fits = omega (arith, few_sent few m g e answer after step, most, fits)

module _ (machines : ℕ → Machine) where
  -- from each group for which the core stood, and with which the event agreed, it leads to one for which the core stands
  abbrev pub Acted : Event → GroupAnswer → CorePicture → CorePicture → Type 0
  Acted e answer old new = (g : Group) → Stands machines old g → Agrees (machines g.common.kind) e g
      → (after : Group) × IsStep (machines g.common.kind) g e answer after × Stands machines new after

  pub short_acted : (e : Event) (core : CorePicture) → Acted e answers.NoMemory core core
  short_acted e core = λ g stands agrees. (g, short_step (machines g.common.kind) g e stands.sound agrees, stands)

  module _ (inside old new : BookPicture) (same : inside ≡ old) where
    pub event_done : (e : Event) (answer : GroupAnswer) → Acted e answer inside.core new.core → new.queue ≡ inside.queue
        → new.acts ≡ inside.acts ++ record { event = e; answer = answer } ∷ [] → DoesFor machines (calls.Act e) (told.Event answer) old new
    event_done e answer acted queue put = subst (λ (b : BookPicture). DoesFor machines (calls.Act e) (told.Event answer) b new) same (λ s ready.
        let may = ready.agrees e refl in
        let a = acted s.group ready.stands may.1 in
        record {
          next = record { group = a.0; queue = s.queue };
          steps = (may.0, record { of = answer; is = refl; step = a.1; queue = refl });
          stands = a.2;
          queue = queue ∙ ready.queue;
          entry = entered (record { event = e; answer = answer }) refl put;
        })

    pub carry_done : (out : Out) (left : List Out) (e : Event) (answer : GroupAnswer) → e ≡ brought out → inside.queue ≡ out ∷ left → Acted e answer inside.core new.core → new.queue ≡ left
        → new.acts ≡ inside.acts ++ record { event = e; answer = answer } ∷ [] → DoesFor machines calls.Carry (told.Event answer) old new
    carry_done out left e answer is first acted queue put = subst (λ (b : BookPicture). DoesFor machines calls.Carry (told.Event answer) b new) same (λ s ready.
        let m = machines s.group.common.kind in
        let are : s.queue ≡ out ∷ left = sym ready.queue ∙ first in
        let may : Agrees m (brought out) s.group = (subst (λ (q : List Out). AllMayCome m q s.group) are ready.may_come).0 in
        let a = acted s.group ready.stands (subst (λ (x : Event). Agrees m x s.group) (sym is) may) in
        let next : Shared = record { group = a.0; queue = left } in
        let step : IsStep m s.group (brought out) answer a.0 = subst (λ (x : Event). IsStep m s.group x answer a.0) is a.1 in
        let hands : HandsOut m (brought out) (told.Event answer) (record s { queue = left }) next = record { of = answer; is = refl; step = step; queue = refl } in
        record {
          next = next;
          steps = subst (λ (q : List Out). Carries m q (told.Event answer) s next) (sym are) hands;
          stands = a.2;
          queue = queue;
          entry = entered (record { event = e; answer = answer }) refl put;
        })

  module _ (old new : BookPicture) where
    put_entered : (e : Event) (answer : CallAnswer) (of : GroupAnswer) → answered answer ≡ Some of → IsPut e of old new → IsEntered answer old.core new.core old.acts new.acts
    put_entered e answer of is (inl put) = entered (record { event = e; answer = of }) is put
    put_entered e answer of is (inr short) =
        without_room (is ∙ ap (λ (a : GroupAnswer). Some a) short.0) (ap (λ (b : BookPicture). b.core) short.1) (ap (λ (b : BookPicture). b.acts) short.1)

    pub ask_done : (host : HostNo) (asked : Asked) (queued : QueuedAnswer) (gives : Option Par) (view : Option View) → Acted (asking host asked) queued.whole.value old.core new.core
        → queued.answer ≡ without_out queued.whole.value → new.queue ≡ old.queue ++ sent_by queued.whole.value → IsPut (asking host asked) queued.whole.value old new
        → gives ≡ gives_of (signature_asked (machines old.core.kind) asked.op)
        → ((g : Group) → Stands machines new.core g → view ≡ view_with g.common (version_named queued.answer))
        → DoesFor machines (calls.Ask host asked) (told.Ask record { queued = queued; gives = gives; view = view }) old new
    ask_done host asked queued gives view acted answer queue put gives_is views = λ s ready.
        let e = asking host asked in
        let a = acted s.group ready.stands (ready.agrees e refl).1 in
        let kind : machines old.core.kind ≡ machines s.group.common.kind = ap machines ready.stands.opening.kind in
        record {
          next = record { group = a.0; queue = s.queue ++ sent_by queued.whole.value };
          steps = record {
            of = record { queued = queued; gives = gives; view = view };
            is = refl;
            queues = record { step = a.1; answer = answer; queue = refl };
            gives = gives_is ∙ ap (λ (m : Machine). gives_of (signature_asked m asked.op)) kind;
            view = views a.0 a.2 ∙ ap (view_with a.0.common) (ap version_named answer ∙ same_version queued.whole.value);
          };
          stands = a.2;
          queue = queue ∙ ap (λ (q : List Out). q ++ sent_by queued.whole.value) ready.queue;
          entry = put_entered e (told.Ask record { queued = queued; gives = gives; view = view }) queued.whole.value refl put;
        }

    pub checkpoint_done : TakersMayTake → (host : HostNo) (clock : Tick) (queued : QueuedAnswer) → Acted (events.Checkpoint host clock) queued.whole.value old.core new.core
        → queued.answer ≡ without_out queued.whole.value → new.queue ≡ old.queue ++ sent_by queued.whole.value → IsPut (events.Checkpoint host clock) queued.whole.value old new
        → ((g : Group) → Stands machines old.core g → Some host ≡ taker g)
        → DoesFor machines (calls.Checkpoint clock) (told.Checkpoint queued) old new
    checkpoint_done takers host clock queued acted answer queue put takes = λ s ready.
        let m = machines s.group.common.kind in
        let e = events.Checkpoint host clock in
        let here : taker s.group ≡ Some host = sym (takes s.group ready.stands) in
        let a = acted s.group ready.stands (takers m s.group host clock ready.stands.sound here).agrees in
        let next : Shared = record { group = a.0; queue = s.queue ++ sent_by queued.whole.value } in
        record {
          next = next;
          steps = subst (λ (o : Option HostNo). Takes m o clock (told.Checkpoint queued) s next) (sym here)
              (record { of = queued; is = refl; queues = record { step = a.1; answer = answer; queue = refl } });
          stands = a.2;
          queue = queue ∙ ap (λ (q : List Out). q ++ sent_by queued.whole.value) ready.queue;
          entry = put_entered e (told.Checkpoint queued) queued.whole.value refl put;
        }

  -- a look at the figures
  pub figures_done : (inside old : BookPicture) → inside ≡ old → (core : CorePicture) → core ≡ inside.core → (of : Result Figures NoMemory)
      → ((g : Group) → Stands machines core g → IfOk of (AreFigures (machines g.common.kind) g)) → DoesFor machines calls.Figures (told.Figures of) old old
  figures_done inside old same core is of are = subst (λ (b : BookPicture). DoesFor machines calls.Figures (told.Figures of) b b) same (λ s ready. record {
    next = s;
    steps = (record { of = of; is = refl; are = are s.group (subst (λ (x : CorePicture). Stands machines x s.group) (sym is) ready.stands) }, refl);
    stands = ready.stands;
    queue = ready.queue;
    entry = looked refl refl refl;
  })
