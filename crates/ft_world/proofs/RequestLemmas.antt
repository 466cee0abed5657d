-- A request that comes to a group of a world.
use Rattle.std.proofs.Common.{◌≡◌, ℕ, ◌+◌, ◌≤◌, List, length, Option, Some, None, refl, sym, ap, subst, ◌∙◌, arith}
use Rattle.std.specs.Prelude.{option_map, slice_get, Result, Ok, Err, IfOk, OnOk}
use Rattle.std.specs.List.{AllByRecursion}
use Rattle.ft_base.specs.Text.{zero_place}
use Rattle.ft_base.specs.declared.text.TheConstants.{NAME_LIMIT}
use Rattle.ft_base.specs.declared.views.View.{View}
use Rattle.cdr_codec.specs.declared.orders.Order.{Order}
use Rattle.group_core.specs.Telling.{shown_view}
use Rattle.host_server.specs.Replies.{CanGive, IsForward}
use Rattle.iogr_reference.specs.declared.references.Ior.{Ior}
use Rattle.host_ports.specs.Ports.{all_ports}
use Rattle.link_session.specs.References.{ViewReferencesCanBeSent}
use Rattle.script_groups.specs.Acting.{IsSoundGroup, MayCome}
use Rattle.script_groups.specs.Groups.{ScriptGroup, acted, common_of, machine_of, placed, turn}
use Rattle.script_groups.specs.Laws.{AnswersAreInForm, ShownAreViews}
use Rattle.script_groups.specs.Lists.{get_set, same_some}
use Rattle.script_groups.specs.References.{ior_at, ior_in}
use Rattle.shipped_servants.specs.Kinds.{type_id}
use Rattle.shipped_servants.specs.declared.kinds.Kind.{Kind}
use Rattle.shipped_servants.specs.declared.kinds.Kind.TheVariants as kinds
use Rattle.ft_base.specs.declared.requests.Par.{Par}
use Rattle.ft_base.specs.Machine.{gives_of, Machine, IsGivenAs}
use Rattle.ft_base.specs.declared.decisions.Stop.{Stop}
use Rattle.ft_base.specs.declared.memory.NoMemory.{NoMemory}
use Rattle.ft_base.specs.declared.numbers.HostNo.{HostNo}
use Rattle.ft_base.specs.declared.numbers.Tick.{Tick}
use Rattle.ft_base.specs.declared.requests.Outcome.{Outcome}
use Rattle.ft_base.specs.declared.requests.Outcome.TheVariants as outcomes
use Rattle.ft_base.specs.declared.requests.Signature.{Signature}
use Rattle.group_model.specs.Answering.{IsAnswered}
use Rattle.group_model.specs.Asking.{signature_asked}
use Rattle.group_model.specs.Plain.{Common}
use Rattle.group_model.specs.Sending.{sent_by}
use Rattle.group_model.specs.declared.asking.Asked.{Asked}
use Rattle.group_model.specs.declared.events.Event.{Event}
use Rattle.group_model.specs.declared.events.Event.TheVariants as events
use Rattle.group_model.specs.declared.events.GroupAnswer.{GroupAnswer}
use Rattle.group_model.specs.declared.events.GroupAnswer.TheVariants as answers
use Rattle.group_model.specs.declared.events.Out.{Out}
use Rattle.sys_faults.specs.declared.answers.Answer.{Answer}
use Rattle.sys_faults.specs.declared.answers.Answer.TheVariants as system_answers
use Rattle.script_world.specs.Sound.{IsOnItsWay}
use Rattle.script_world.specs.World.{World, carried, host_clock, with_event}
use Rattle.script_world.specs.Worlds.{HasTurnAt, IsShortAt}
use Rattle.ft_world.specs.Requests.{Asks, CanBeSaid, CanRedirect, CanRedirectIn, HasAsked, IsInForm, ask, gives_asked, reply_by, request_at, said_by}
use Rattle.ft_world.specs.declared.asking.Said.{Said}
use Rattle.ft_world.specs.declared.asking.Said.TheVariants as saids

-- ---- forwards

type_id_text : (k : Kind) → zero_place (type_id k) ≡ None
type_id_text kinds.Account = refl
type_id_text kinds.Store = refl
type_id_text kinds.Queue = refl

type_id_short : (k : Kind) → length (type_id k) ≤ NAME_LIMIT
type_id_short kinds.Account = omega arith
type_id_short kinds.Store = omega arith
type_id_short kinds.Queue = omega arith

sent_in : ViewReferencesCanBeSent → ShownAreViews → (g : ScriptGroup) (version : ℕ) (view : View) → IsSoundGroup g →
    shown_view (common_of g) version ≡ Some view → (order : Order) → IsForward order (ior_in g view)
sent_in refs shown g version view sound is order =
    refs g.id (type_id g.kind) view all_ports order (type_id_text g.kind) (type_id_short g.kind) (shown g version view sound is).few

sent_of : ViewReferencesCanBeSent → ShownAreViews → (g : ScriptGroup) (version : ℕ) (body : Ior) (o : Option View) → IsSoundGroup g →
    shown_view (common_of g) version ≡ o → Some body ≡ option_map (ior_in g) o → (order : Order) → IsForward order body
sent_of refs shown g version body None sound is there order = absurd cc
sent_of refs shown g version body (Some view) sound is there order =
    let same : body ≡ ior_in g view = cc in
    subst (λ (b : Ior). IsForward order b) (sym same) (sent_in refs shown g version view sound is order)

-- the reference of a view of a group can be sent
pub can_be_sent : ViewReferencesCanBeSent → ShownAreViews → (g : ScriptGroup) (version : ℕ) (body : Ior) → IsSoundGroup g →
    Some body ≡ ior_at g version → (order : Order) → IsForward order body
can_be_sent refs shown g version body sound there order =
    sent_of refs shown g version body (shown_view (common_of g) version) sound refl there order

pub can_redirect : ViewReferencesCanBeSent → ShownAreViews → (g : ScriptGroup) (version : ℕ) (o : Option Ior) → IsSoundGroup g →
    o ≡ ior_at g version → CanRedirect o
can_redirect refs shown g version None sound there = tt
can_redirect refs shown g version (Some body) sound there = λ order. can_be_sent refs shown g version body sound there order

-- ---- answers in form

-- an outcome of the operation that was asked is given in form
given_in_form : (o : Option Signature) (outcome : Outcome) → IsGivenAs o outcome → CanGive (gives_of o) outcome
given_in_form None outcome given = absurd given
given_in_form (Some signature) (outcomes.Value value) given = record { canonical = given.0; short = given.1 }
given_in_form (Some signature) (outcomes.User name) given = tt

answered_in_form : (m : Machine) (c : Common) (op : Option (List ℕ)) (answer : Answer) → IsAnswered m c op answer → IsInForm (gives_of (signature_asked m op)) answer
answered_in_form m c op (system_answers.Done outcome) is = given_in_form (signature_asked m op) outcome is
answered_in_form m c op (system_answers.System fault) is = is
answered_in_form m c op (system_answers.Forward version) is = tt
answered_in_form m c op (system_answers.ForwardPerm version) is = tt

-- ---- a request at a group of a world, as its event in code

module _ (w later : World) (place : ℕ) (g : ScriptGroup) (host : HostNo) (clock : Tick) (asked : Asked) (stop : Stop) (before between : ℕ)
    (there : slice_get w.groups place ≡ Some g) (clock_is : clock.0 ≡ host_clock w host.0) where
  abbrev pub event_of : Event
  event_of = events.Request host clock asked stop

  event_is : event_of ≡ request_at w host asked stop
  event_is = ap (λ (n : ℕ). events.Request host (record { 0 = n }) asked stop) clock_is

  -- the group that had it is this one
  pub had_turn : (a : GroupAnswer) → HasTurnAt w place event_of a later before between →
      (later ≡ with_event w place g event_of) × (((turn g event_of).answer ≡ a) × (between ≡ before + (turn g event_of).calls))
  had_turn a it =
      let same : it.group ≡ g = same_some it.group g (sym it.there ∙ there) in (
        it.is ∙ ap (λ (s : ScriptGroup). with_event w place s event_of) same,
        (
          ap (λ (s : ScriptGroup). (turn s event_of).answer) (sym same) ∙ it.told,
          it.calls ∙ ap (λ (s : ScriptGroup). before + (turn s event_of).calls) same,
        ),
      )

  -- it stands in the world after it
  pub stands_later : (a : GroupAnswer) → HasTurnAt w place event_of a later before between → slice_get later.groups place ≡ Some (acted g event_of)
  stands_later a it =
      subst (λ (v : World). slice_get v.groups place ≡ Some (acted g event_of)) (sym (had_turn a it).0)
      (get_set w.groups place (acted g event_of) g there)

  -- what the host says of it can be said
  can_be_said : (law : AnswersAreInForm) (gives : Option Par) (a : GroupAnswer) (said : Said) → IsSoundGroup g → MayCome g event_of →
      (turn g event_of).answer ≡ a → gives ≡ gives_asked g asked → said ≡ said_by (acted g event_of) gives a → CanRedirectIn said →
      AllByRecursion (λ (o : Out). IsOnItsWay later.groups (carried g.id o)) (sent_by a) → CanBeSaid later.groups g.id said
  can_be_said law gives (answers.Reply decision (Some answer) out) said sound may told gives_is is can sent =
      let in_form : IsInForm gives answer =
      subst (λ (o : Option Par). IsInForm o answer) (sym gives_is)
      (answered_in_form (machine_of g) (common_of (acted g event_of)) asked.op answer
      (law g host clock asked stop decision answer out sound may told)) in
      let redirect : CanRedirectIn (saids.Reply (reply_by (acted g event_of) gives decision answer out)) = subst CanRedirectIn is can in
      subst (λ (s : Said). CanBeSaid later.groups g.id s) (sym is) (record { answer = in_form; redirect = redirect; sent = sent })
  can_be_said law gives (answers.Reply decision None out) said sound may told gives_is is can sent = subst (λ (s : Said). CanBeSaid later.groups g.id s) (sym is) tt
  can_be_said law gives (answers.Known version) said sound may told gives_is is can sent = subst (λ (s : Said). CanBeSaid later.groups g.id s) (sym is) tt
  can_be_said law gives (answers.Applied n) said sound may told gives_is is can sent = subst (λ (s : Said). CanBeSaid later.groups g.id s) (sym is) tt
  can_be_said law gives (answers.Held n) said sound may told gives_is is can sent = subst (λ (s : Said). CanBeSaid later.groups g.id s) (sym is) tt
  can_be_said law gives (answers.Ignored cause) said sound may told gives_is is can sent = subst (λ (s : Said). CanBeSaid later.groups g.id s) (sym is) tt
  can_be_said law gives (answers.Taken from position out) said sound may told gives_is is can sent = subst (λ (s : Said). CanBeSaid later.groups g.id s) (sym is) tt
  can_be_said law gives (answers.Changed view out) said sound may told gives_is is can sent = subst (λ (s : Said). CanBeSaid later.groups g.id s) (sym is) tt
  can_be_said law gives (answers.Refused fault) said sound may told gives_is is can sent = subst (λ (s : Said). CanBeSaid later.groups g.id s) (sym is) tt
  can_be_said law gives answers.LogFault said sound may told gives_is is can sent = subst (λ (s : Said). CanBeSaid later.groups g.id s) (sym is) tt
  can_be_said law gives answers.Down said sound may told gives_is is can sent = subst (λ (s : Said). CanBeSaid later.groups g.id s) (sym is) tt
  can_be_said law gives answers.Up said sound may told gives_is is can sent = subst (λ (s : Said). CanBeSaid later.groups g.id s) (sym is) tt
  can_be_said law gives answers.NoMemory said sound may told gives_is is can sent = subst (λ (s : Said). CanBeSaid later.groups g.id s) (sym is) tt

  pub all_can_be_said : (law : AnswersAreInForm) (gives : Option Par) (a : GroupAnswer) (result : Result Said NoMemory) → IsSoundGroup g → MayCome g event_of →
      HasTurnAt w place event_of a later before between → gives ≡ gives_asked g asked →
      IfOk result (λ (said : Said). said ≡ said_by (acted g event_of) gives a) → IfOk result CanRedirectIn →
      AllByRecursion (λ (o : Out). IsOnItsWay later.groups (carried g.id o)) (sent_by a) → IfOk result (CanBeSaid later.groups g.id)
  all_can_be_said law gives a (Ok said) sound may it gives_is is can sent = can_be_said law gives a said sound may (had_turn a it).1.0 gives_is is can sent
  all_can_be_said law gives a (Err why) sound may it gives_is is can sent = tt

  -- it was asked
  has_asked : (gives : Option Par) (a : GroupAnswer) (said : Said) → HasTurnAt w place event_of a later before between → gives ≡ gives_asked g asked →
      said ≡ said_by (acted g event_of) gives a → HasAsked (ask w (placed place g) host asked stop) said later before between
  has_asked gives a said it gives_is is =
      let had = had_turn a it in
      let e : Event = request_at w host asked stop in
      let told : a ≡ (turn g e).answer = sym had.1.0 ∙ ap (λ (x : Event). (turn g x).answer) event_is in
      record {
        world = had.0 ∙ ap (λ (x : Event). with_event w place g x) event_is;
        said = is ∙ ap (λ (x : Event). said_by (acted g x) gives a) event_is ∙ ap (λ (o : Option Par). said_by (acted g e) o a) gives_is
            ∙ ap (λ (b : GroupAnswer). said_by (acted g e) (gives_asked g asked) b) told;
        calls = had.1.1 ∙ ap (λ (x : Event). before + (turn g x).calls) event_is;
      }

  pub asks_so : (gives : Option Par) (a : GroupAnswer) (result : Result Said NoMemory) → HasTurnAt w place event_of a later before between →
      gives ≡ gives_asked g asked → IfOk result (λ (said : Said). said ≡ said_by (acted g event_of) gives a) →
      Asks (ask w (placed place g) host asked stop) result later before between
  asks_so gives a (Ok said) it gives_is is = has_asked gives a said it gives_is is
  asks_so gives a (Err why) it gives_is is =
      let calls : between ≡ before + (turn g (request_at w host asked stop)).calls =
      (had_turn a it).1.1 ∙ ap (λ (x : Event). before + (turn g x).calls) event_is in omega (arith, calls)

  -- no memory for it
  pub asks_short : IsShortAt w place event_of before between → between ≤ before + (ask w (placed place g) host asked stop).calls
  asks_short it =
      let same : it.group ≡ g = same_some it.group g (sym it.there ∙ there) in
      subst (λ (x : Event). between ≤ before + (turn g x).calls) event_is (subst (λ (s : ScriptGroup). between ≤ before + (turn s event_of).calls) same it.calls)

pub kept_on : {P : Type 0} (result : Result Said NoMemory) → P → OnOk result P
kept_on (Ok said) p = p
kept_on (Err why) p = tt
