-- What a world's messages say of its groups, and what the hosts of its groups know: it is true, and stays so whatever more
-- happens to the groups.
use Rattle.std.proofs.Common.{◌≡◌, ℕ, zero, suc, ◌-◌, ◌≤◌, arith, Bool, true, false, if◌then◌else◌, List, [], ◌∷◌, ◌++◌, length, Some, sym, ap, subst, ◌∙◌}
use Rattle.std.proofs.lemmas.List.{length-append}
use Rattle.std.proofs.lemmas.Option.{slice_get_within}
use Rattle.std.specs.Prelude.{slice_get, slice_set}
use Rattle.std.specs.List.{AllByRecursion}
use Rattle.ft_base.specs.Journal.{Entry}
use Rattle.ft_base.specs.Members.{is_member}
use Rattle.ft_base.specs.declared.numbers.GroupId.{GroupId}
use Rattle.ft_base.specs.declared.requests.Outcome.{Outcome}
use Rattle.ft_base.specs.declared.views.Style.{Style}
use Rattle.ft_base.specs.declared.views.View.{View}
use Rattle.group_model.specs.declared.events.Event.{Event}
use Rattle.group_model.specs.declared.events.Event.TheVariants as events
use Rattle.group_model.specs.declared.events.Out.{Out}
use Rattle.group_model.specs.Events.{after_event}
use Rattle.group_model.specs.Openings.{first_view, opens_loaded}
use Rattle.group_model.specs.Plain.{Common, Group, blank, loaded_at, nowhere}
use Rattle.group_model.specs.Runs.{after_steps}
use Rattle.group_model.specs.Sending.{brought, sent_by}
use Rattle.group_model.specs.Versions.{IsHad, KnowsItsViews, OnlyViewsAreKnown, OnlyViewsAreSent}
use Rattle.group_model.specs.Views.{host_no, newest}
use Rattle.script_groups.specs.Groups.{ScriptGroup, acted, all_acted, common_of, failing, group_of, is_failing, machine_of, opened, steps_of, turn}
use Rattle.script_groups.specs.Histories.{with_all}
use Rattle.script_groups.specs.Laws.{FailuresChangeNothing, GroupsGrow, HistoriesGoOn, RepliesStay}
use Rattle.script_groups.specs.Lists.{get_set}
use Rattle.script_world.specs.Sound.{AreInOrder}
use Rattle.script_world.specs.World.{World}
use Rattle.script_world.specs.declared.hosts.HostState.{HostState}
use Rattle.script_world.specs.declared.messages.Message.{Message}
use Rattle.script_world.specs.declared.messages.Message.TheVariants as messages
use Rattle.script_world.specs.declared.messages.Reply.{Reply}
use Rattle.shipped_servants.specs.declared.kinds.Kind.{Kind}
use Rattle.sys_faults.specs.declared.answers.Answer.{Answer}
use Rattle.sys_faults.specs.declared.answers.Answer.TheVariants as answers
use Rattle.world_management.specs.Making.{stopped_from, stopped_if}
use Rattle.world_turns.specs.Sending.{all_carried}
use Rattle.ft_world.specs.Laws.{AllLater, HasMore, KeepsEntries}
use Rattle.ft_world.specs.Leading.{BringsHad, HadViews, HasKnownViews, KnowsViews}
use Rattle.ft_world.specs.Messages.{RepliesAs, RepliesEntry, RepliesOnce}
use Rattle.ft_world.specs.Replying.{EntriesAreReplied}
use Rattle.ft_world.proofs.LaterLemmas.{keeps_entries, later_at}
use Rattle.ft_world.proofs.MadeLemmas.{all_both, all_so}

-- what is known of every group
pub record KnownGroups : Type 0 where
  pub go_on : HistoriesGoOn
  pub failing : FailuresChangeNothing
  pub grow : GroupsGrow
  pub stay : RepliesStay
  pub replied : EntriesAreReplied
  pub views : OnlyViewsAreKnown
  pub sent : OnlyViewsAreSent

-- ---- a world

abbrev pub IsTrue : List ScriptGroup → List Message → Message → Type 0
IsTrue gs ms m = RepliesOnce gs ms m × BringsHad gs m

pub record AreTrue (gs : List ScriptGroup) (ms : List Message) : Type 0 where
  pub groups : AllByRecursion KnowsViews gs
  pub messages : AllByRecursion (IsTrue gs ms) ms

abbrev pub AllTrue : World → Type 0
AllTrue w = AreTrue w.groups w.messages

pub knows_views : (w : World) → AllTrue w → HasKnownViews w
knows_views w t = record { groups = t.groups; messages = all_so (IsTrue w.groups w.messages) (BringsHad w.groups) w.messages (λ m is. is.1) t.messages }

-- ---- elements of lists, and more behind them

-- each of the first stands at its place among the second
abbrev AreFirst : {A : Type 0} → List A → List A → Type 0
AreFirst {A} xs ys = (i : ℕ) (x : A) → slice_get xs i ≡ Some x → slice_get ys i ≡ Some x

got_before : {A : Type 0} (xs more : List A) → AreFirst xs (xs ++ more)
got_before [] more i x at = absurd cc
got_before (y ∷ xs) more zero x at = at
got_before (y ∷ xs) more (suc i) x at = got_before xs more i x at

-- ---- messages stay true

had_later : (c d : Common) (e : Event) → newest c ≤ newest d → IsHad c e → IsHad d e
had_later c d (events.View host sent) more had = omega (arith, more, had)
had_later c d other more had = tt

module _ (known : KnownGroups) (gs hs : List ScriptGroup) (later : AllLater HasMore gs hs) where
  reply_stays : (ms ns : List Message) (r : Reply) (outcome : Outcome) → AreFirst ms ns → RepliesEntry gs ms r outcome → RepliesEntry hs ns r outcome
  reply_stays ms ns r outcome first a =
      let now = later_at HasMore gs hs a.place a.group later a.at in
      let kept : KeepsEntries a.group now.0 = keeps_entries known.grow known.stay a.group now.0 now.2 in
      record {
        number = a.number;
        asked = a.asked;
        sent = first a.number _ a.sent;
        id = a.id;
        to = a.to;
        place = a.place;
        group = now.0;
        at = now.1;
        named = kept.id ∙ a.named;
        entry = a.entry;
        is_of = record {
          entry = a.is_of.entry;
          at = ap (λ (es : List Entry). slice_get es a.entry) kept.journal ∙ got_before (common_of a.group).journal kept.more a.entry a.is_of.entry a.is_of.at;
          key = a.is_of.key;
          op = a.is_of.op;
        };
        tells = a.tells ∙ sym (kept.replies a.entry (slice_get_within (common_of a.group).journal a.entry a.is_of.entry a.is_of.at));
      }

  answer_stays : (ms ns : List Message) (r : Reply) (answer : Answer) → AreFirst ms ns → RepliesAs gs ms r answer → RepliesAs hs ns r answer
  answer_stays ms ns r (answers.Done outcome) first a = reply_stays ms ns r outcome first a
  answer_stays ms ns r other first a = tt

  more_views : (g h : ScriptGroup) → HasMore g h → newest (common_of g) ≤ newest (common_of h)
  more_views g h more =
      let grown = known.grow g more.more in
      let long = ap (λ (vs : List View). length vs) grown.views in
      let both = length-append (common_of g).views grown.newer in
      let same = ap (λ (x : ScriptGroup). newest (common_of x)) more.is in
      omega (arith, long, both, same)

  had_stays : (group : GroupId) (e : Event) → HadViews gs group e → HadViews hs group e
  had_stays group e a =
      let now = later_at HasMore gs hs (group.0 - 1) a.is later a.at in
      record { is = now.0; at = now.1; had = had_later (common_of a.is) (common_of now.0) e (more_views a.is now.0 now.2) a.had }

  message_stays : (ms ns : List Message) (m : Message) → AreFirst ms ns → IsTrue gs ms m → IsTrue hs ns m
  message_stays ms ns (messages.Request client host a) first is = (tt, tt)
  message_stays ms ns (messages.Reply r) first is = (answer_stays ms ns r r.answer first is.0, tt)
  message_stays ms ns (messages.Carried group out) first is = (tt, had_stays group (brought out) is.1)
  message_stays ms ns (messages.Ping group host) first is = (tt, tt)
  message_stays ms ns (messages.Pong group host) first is = (tt, tt)

  -- more happens to groups
  pub later_true : (ms : List Message) → AllByRecursion KnowsViews hs → AreTrue gs ms → AreTrue hs ms
  later_true ms knows a = record {
    groups = knows;
    messages = all_so (IsTrue gs ms) (IsTrue hs ms) ms (λ m is. message_stays ms ms m (λ i x at. at) is) a.messages;
  }

-- more messages are sent
pub more_true : (known : KnownGroups) (gs : List ScriptGroup) → AllLater HasMore gs gs → (ms more : List Message) → AllByRecursion (IsTrue gs ms) more →
    AreTrue gs ms → AreTrue gs (ms ++ more)
more_true known gs later ms more said a =
    let stays : (m : Message) → IsTrue gs ms m → IsTrue gs (ms ++ more) m = λ m is. message_stays known gs gs later ms (ms ++ more) m (got_before ms more) is in
    record {
      groups = a.groups;
      messages = all_both (IsTrue gs (ms ++ more)) ms more
          (all_so (IsTrue gs ms) (IsTrue gs (ms ++ more)) ms stays a.messages) (all_so (IsTrue gs ms) (IsTrue gs (ms ++ more)) more stays said);
    }

-- ---- groups know their views

module _ (known : KnownGroups) where
  pub acted_knows : (g : ScriptGroup) (e : Event) → KnowsViews g → IsHad (common_of g) e → KnowsViews (acted g e)
  acted_knows g e knows had = subst KnowsItsViews (sym (known.go_on g e)) (known.views (machine_of g) (group_of g) e (is_failing g) knows had)

  pub failing_knows : (g : ScriptGroup) → KnowsViews g → KnowsViews (failing g)
  failing_knows g knows = subst KnowsItsViews (sym (known.failing g).0) knows

  -- an event that tells of no view comes to all
  pub all_know : (e : Event) → ((c : Common) → IsHad c e) → (gs : List ScriptGroup) → AllByRecursion KnowsViews gs → AllByRecursion KnowsViews (all_acted e gs)
  all_know e had [] all = tt
  all_know e had (g ∷ gs) all = (acted_knows g e all.0 (had (common_of g)), all_know e had gs all.1)

  pub stopped_know : (i : ℕ) (hosts : List HostState) (g : ScriptGroup) → KnowsViews g → KnowsViews (stopped_from i hosts g)
  unfolding stopped_from
  stopped_know i [] g knows = knows
  stopped_know i (h ∷ hosts) g knows = stopped_know (suc i) hosts (stopped_if h.up g i) (one h.up)
    where
      one : (up : Bool) → KnowsViews (stopped_if up g i)
      one true = knows
      one false = acted_knows g (events.Crash (host_no i)) knows tt

  -- what it sends
  pub sends_had : (gs : List ScriptGroup) (place : ℕ) (g : ScriptGroup) (e : Event) → AreInOrder gs → slice_get gs place ≡ Some g → KnowsViews g → IsHad (common_of g) e →
      AllByRecursion (λ (out : Out). HadViews (slice_set gs place (acted g e)) g.id (brought out)) (sent_by (turn g e).answer)
  sends_had gs place g e ordered at knows had =
      let new : List ScriptGroup = slice_set gs place (acted g e) in
      let number = ordered place g at in
      let its_own : place ≡ g.id.0 - 1 = omega (arith, number) in
      all_so (λ (out : Out). IsHad (after_event (machine_of g) (group_of g) e (is_failing g)).common (brought out)) (λ (out : Out). HadViews new g.id (brought out)) (sent_by (turn g e).answer)
      (λ out sent. (record {
        is = acted g e;
        at = subst (λ (i : ℕ). slice_get new i ≡ Some (acted g e)) its_own (get_set gs place (acted g e) g at);
        had = subst (λ (after : Group). IsHad after.common (brought out)) (sym (known.go_on g e)) sent;
      })) (known.sent (machine_of g) (group_of g) e (is_failing g) knows had)

pub opened_knows : (id : GroupId) (name : List ℕ) (kind : Kind) (style : Style) (members : List ℕ) → KnowsViews (opened id name kind style members)
unfolding group_of steps_of with_all after_steps
opened_knows id name kind style members = record { last = omega arith; known = λ i. one i (is_member i members) }
  where
    one : (i : ℕ) (b : Bool) → (if b then record { up = true; known = 1; place = if opens_loaded style (first_view style members) i then loaded_at 0 else nowhere; holdback = [] } else blank true).known ≤ 1
    one i true = omega arith
    one i false = omega arith

-- ---- what is sent

pub carried_true : (gs : List ScriptGroup) (ms : List Message) (group : GroupId) (outs : List Out) →
    AllByRecursion (λ (out : Out). HadViews gs group (brought out)) outs → AllByRecursion (IsTrue gs ms) (all_carried group outs)
carried_true gs ms group [] all = tt
carried_true gs ms group (out ∷ outs) all = ((tt, all.0), carried_true gs ms group outs all.1)
