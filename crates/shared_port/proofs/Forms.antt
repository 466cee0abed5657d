-- What is told of a request can be said on a link.
use Rattle.std.proofs.Common.{◌≡◌, ℕ, zero, suc, ◌-◌, ◌<◌, Bool, true, false, cond, List, [], ◌∷◌, length, Option, Some, None, refl, sym, subst, arith}
use Rattle.std.specs.Prelude.{slice_get, slice_index_or, nat_le, ◌&&◌, IfSome}
use Rattle.std.proofs.lemmas.Bool.{leb-true}
use Rattle.ft_base.specs.Laws.{Gives, Stays}
use Rattle.ft_base.specs.Machine.{IsGivenAs, Machine, gives_of}
use Rattle.ft_base.specs.Text.{IsName}
use Rattle.ft_base.specs.declared.numbers.HostNo.{HostNo}
use Rattle.ft_base.specs.declared.numbers.Tick.{Tick}
use Rattle.ft_base.specs.declared.requests.Outcome.{Outcome}
use Rattle.ft_base.specs.declared.requests.Outcome.TheVariants as outcomes
use Rattle.ft_base.specs.declared.requests.Par.{Par}
use Rattle.ft_base.specs.declared.requests.Signature.{Signature}
use Rattle.ft_base.specs.declared.views.Style.{Style}
use Rattle.ft_base.specs.declared.views.View.{View}
use Rattle.cdr_codec.specs.declared.orders.Order.{Order}
use Rattle.sys_faults.specs.declared.answers.Answer.{Answer}
use Rattle.sys_faults.specs.declared.answers.Answer.TheVariants as fault_answers
use Rattle.iogr_reference.specs.Views.{reference_of}
use Rattle.iogr_reference.specs.declared.references.Ior.{Ior}
use Rattle.host_server.specs.Replies.{CanGive, IsForward}
use Rattle.link_session.specs.References.{ViewReferencesCanBeSent}
use Rattle.group_model.specs.declared.asking.Asked.{Asked}
use Rattle.group_model.specs.declared.events.GroupAnswer.{GroupAnswer}
use Rattle.group_model.specs.declared.events.GroupAnswer.TheVariants as answers
use Rattle.group_model.specs.Agreeing.{AreViews, IsSound, IsViewAt}
use Rattle.group_model.specs.Answering.{AnswersAreGiven, IsAnswered}
use Rattle.group_model.specs.Asking.{signature_asked}
use Rattle.group_model.specs.Events.{shows_fault}
use Rattle.group_model.specs.Plain.{Common, Group}
use Rattle.group_model.specs.Steps.{IsStep}
use Rattle.group_model.specs.Views.{newest, no_view, view_at}
use Rattle.group_core.specs.Telling.{shown_view}
use Rattle.ft_base.specs.declared.decisions.Stop.TheVariants.{Never}
use Rattle.shared_group.specs.declared.calls.AskAnswer.{AskAnswer}
use Rattle.shared_group.specs.declared.calls.Call.TheVariants as calls
use Rattle.shared_group.specs.declared.calls.CallAnswer.TheVariants as told
use Rattle.shared_group.specs.Shared.{asking, version_in, view_named, view_with, without_out}
use Rattle.shared_group.specs.Turns.{GroupLock, GroupPass, IsTaken, SharedValue}
use Rattle.shared_port.specs.Answers.{AreInForm, IsInForm, IsShortView}

-- ---- a view that is shown

got : {A : Type 0} (xs : List A) (i : ℕ) (d : A) → i < length xs → slice_get xs i ≡ Some (slice_index_or xs i d)
got [] i d inside = absurd (omega (arith, inside))
got (x ∷ xs) zero d inside = refl
got (x ∷ xs) (suc i) d inside = got xs i d (omega (arith, inside))

fits : (style : Style) (view : View) (k : ℕ) → IsViewAt style k view → IsShortView view
fits style view k is = record { hosts = is.hosts; few = is.is.few }

is_shown : (c : Common) (version : ℕ) (view : View) → AreViews c.style c.views → 0 < c.first_kept → shown_view c version ≡ Some view → IsShortView view
is_shown c version view views some = go (nat_le c.first_kept version) (nat_le version (newest c)) refl refl
  where
    go : (kept last : Bool) → nat_le c.first_kept version ≡ kept → nat_le version (newest c) ≡ last → cond (kept && last) (Some (view_at c.views version)) None ≡ Some view → IsShortView view
    go false last e f is = absurd cc
    go true false e f is = absurd cc
    go true true e f is =
        let inside : version - 1 < length c.views = omega (arith, some, leb-true c.first_kept version e, leb-true version (newest c) f) in
        let same : view_at c.views version ≡ view = cc in
        subst IsShortView same (fits c.style (view_at c.views version) (version - 1) (views.each (version - 1) (view_at c.views version) (got c.views (version - 1) no_view inside)))

if_shown : (m : Machine) (g : Group) (version : ℕ) (view : Option View) → IsSound m g → view ≡ shown_view g.common version → IfSome view IsShortView
if_shown m g version None sound is = tt
if_shown m g version (Some view) sound is = is_shown g.common version view sound.common.views sound.common.kept.some (sym is)

-- its reference can be written in a reply
pub can_be_sent : ViewReferencesCanBeSent → (group : SharedValue) (view : View) (body : Ior) → IsName group.type_id → IsShortView view
    → body ≡ reference_of group.group group.type_id view group.ports → (order : Order) → IsForward order body
can_be_sent law group view body name short is order =
    subst (λ (b : Ior). IsForward order b) (sym is) (law group.group group.type_id view group.ports order name.no_zero name.short short.few)

-- ---- what a request is answered

given_in_form : (o : Option Signature) (outcome : Outcome) → IsGivenAs o outcome → CanGive (gives_of o) outcome
given_in_form None outcome given = absurd given
given_in_form (Some signature) (outcomes.Value value) given = record { canonical = given.0; short = given.1 }
given_in_form (Some signature) (outcomes.User name) given = tt

module _ (m : Machine) (stays : Stays m) (gives_all : Gives m) (law : AnswersAreGiven) where
  answered_in_form : (after : Group) (op : Option (List ℕ)) (gives : Option Par) (view : Option View) (answer : Answer) → IsSound m after → gives ≡ gives_of (signature_asked m op)
      → view ≡ view_with after.common (version_in answer) → IsAnswered m after.common op answer → IsInForm gives view answer
  answered_in_form after op gives view (fault_answers.Done outcome) sound gives_is named is =
      subst (λ (p : Option Par). CanGive p outcome) (sym gives_is) (given_in_form (signature_asked m op) outcome is)
  answered_in_form after op gives view (fault_answers.System fault) sound gives_is named is = is
  answered_in_form after op gives view (fault_answers.Forward version) sound gives_is named is = if_shown m after version.0 view sound named
  answered_in_form after op gives view (fault_answers.ForwardPerm version) sound gives_is named is = if_shown m after version.0 view sound named

  module _ (g after : Group) (sound : IsSound m after) (host : HostNo) (asked : Asked) (gives : Option Par) (view : Option View) (gives_is : gives ≡ gives_of (signature_asked m asked.op)) where
    step_in_form : (whole : GroupAnswer) → IsStep m g (asking host asked) whole after → view ≡ view_named after.common whole → AreInForm gives view (without_out whole)
    step_in_form (answers.Reply decision (Some answer) out) step named =
        let fails = shows_fault (answers.Reply decision (Some answer) out) in
        let clock : Tick = record { 0 = 0 } in
        answered_in_form after asked.op gives view answer sound gives_is named
        (subst (λ (a : Group). IsAnswered m a.common asked.op answer) (sym step.leads.1)
        (law m g fails host clock asked Never decision answer out stays gives_all step.sound step.agrees step.leads.0))
    step_in_form (answers.Reply decision None out) step named = tt
    step_in_form (answers.Known version) step named = tt
    step_in_form (answers.Applied n) step named = tt
    step_in_form (answers.Held n) step named = tt
    step_in_form (answers.Ignored cause) step named = tt
    step_in_form (answers.Taken from position out) step named = tt
    step_in_form (answers.Changed after_view out) step named = tt
    step_in_form (answers.Refused fault) step named = tt
    step_in_form answers.LogFault step named = tt
    step_in_form answers.Down step named = tt
    step_in_form answers.Up step named = tt
    step_in_form answers.NoMemory step named = tt

pub ask_in_form : (machines : ℕ → Machine) → ((k : ℕ) → Stays (machines k)) → ((k : ℕ) → Gives (machines k)) → AnswersAreGiven → (lock : GroupLock) (pass later : GroupPass) (host : HostNo) (asked : Asked) (ask : AskAnswer)
    → IsTaken machines lock pass (calls.Ask host asked) (told.Ask ask) later → AreInForm ask.gives ask.view ask.queued.answer
ask_in_form machines stays gives law lock pass later host asked ask taken =
    let opened = taken.legal.1.opened in
    let k = opened.0.common.kind in
    let given = taken.given opened.0 opened.1 in
    let asks = given.step in
    let same : asks.of ≡ ask = let is = asks.is in cc in
    let of = asks.of in
    subst (λ (a : AskAnswer). AreInForm a.gives a.view a.queued.answer) same
    (subst (λ (a : GroupAnswer). AreInForm of.gives of.view a) (sym asks.queues.answer)
    (step_in_form (machines k) (stays k) (gives k) law given.before.group given.after.group given.sound host asked of.gives of.view asks.gives of.queued.whole.value asks.queues.step asks.view))
