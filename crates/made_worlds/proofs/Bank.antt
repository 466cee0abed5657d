-- The group of a made script, as a member serves it: a warm account, of whose hosts those that serve are up and know a view.
-- Whatever the journal says of a request, its one reply ends the client's invocation: so nothing is asked of the keys of
-- requests, or of the times at which they expire.
use Rattle.std.proofs.Common.{◌≡◌, ℕ, ◌+◌, ◌≤◌, max, arith, Bool, true, false, if◌then◌else◌, List, [], ◌∷◌, ◌++◌, length, length-append, Option, Some, None, Result, Ok, refl, ap, sym, subst, ◌∙◌, lit≤}
use Rattle.ft_base.specs.Admissions.{admission}
use Rattle.ft_base.specs.Journal.{Entry}
use Rattle.ft_base.specs.declared.admissions.Admission.{Admission}
use Rattle.ft_base.specs.declared.admissions.Admission.TheVariants as admissions
use Rattle.ft_base.specs.declared.decisions.Decision.{Decision}
use Rattle.ft_base.specs.declared.decisions.Decision.TheVariants as decisions
use Rattle.ft_base.specs.declared.decisions.Stop.TheVariants.{Never}
use Rattle.ft_base.specs.declared.numbers.HostNo.{HostNo}
use Rattle.ft_base.specs.declared.numbers.Tick.{Tick}
use Rattle.ft_base.specs.declared.requests.Request.{Request}
use Rattle.ft_base.specs.declared.views.Style.{Style}
use Rattle.ft_base.specs.declared.views.Style.TheVariants.{Warm}
use Rattle.ft_base.specs.declared.views.View.{View}
use Rattle.client_retry.specs.Meanings.{is_failure}
use Rattle.group_model.specs.declared.asking.Asked.{Asked}
use Rattle.group_model.specs.declared.events.Event.TheVariants as events
use Rattle.group_model.specs.declared.events.GroupAnswer.{GroupAnswer}
use Rattle.group_model.specs.declared.events.GroupAnswer.TheVariants as answers
use Rattle.group_model.specs.Decisions.{known_then, request_in}
use Rattle.group_model.specs.Events.{turn}
use Rattle.group_model.specs.Plain.{Common, Host, caught_up, with_ran}
use Rattle.group_model.specs.Serving.{admitted, joined, repeated, served_or, unless_bad}
use Rattle.group_model.specs.Views.{newest, to_others}
use Rattle.group_model.specs.declared.refusals.Refusal.{Refusal}
use Rattle.group_model.specs.declared.events.Inner.TheVariants as inners
use Rattle.ft_base.specs.Views.{is_passive}
use Rattle.group_model.specs.Turns.{Turn, unchanged}
use Rattle.host_server.specs.declared.answers.PortAnswer.TheVariants as port_answers
use Rattle.message_sizes.specs.Sizes.{answer_size, reply_size}
use Rattle.servant_account.specs.Account.{account_machine}
use Rattle.shipped_servants.specs.Kinds.{opening_of}
use Rattle.shipped_servants.specs.declared.kinds.Kind.TheVariants.{Account}
use Rattle.sys_faults.specs.declared.answers.Answer.{Answer}
use Rattle.sys_faults.specs.declared.answers.Answer.TheVariants.{Done, System, Forward, ForwardPerm}
use Rattle.made_worlds.proofs.Replies.{IsBrief, MOST, reply_brief}

-- the group has these views, and no more accepted requests than so many
pub record IsBank (views : List View) (most : ℕ) (c : Common) : Type 0 where
  pub style : c.style ≡ Warm
  pub views_are : c.views ≡ views
  pub opening : c.opening ≡ opening_of Account
  pub few : length c.journal ≤ most

-- a host is up, and knows the view of this version
pub record IsAwake (known : ℕ) (h : Host) : Type 0 where
  pub up : h.up ≡ true
  pub knows : h.known ≡ known

-- an answer that ends its client's invocation, in a reply that isn't too long
abbrev pub IsEnd : Answer → Type 0
IsEnd (Done outcome) = IsBrief outcome
IsEnd (System fault) = (is_failure fault.kind ≡ false) × (answer_size (port_answers.System fault) ≤ MOST)
IsEnd (Forward version) = ⊥
IsEnd (ForwardPerm version) = ⊥

-- one reply that ends an invocation, and nothing else is sent
pub record IsEnded (answer : GroupAnswer) : Type 0 where
  pub decision : Decision
  pub said : Answer
  pub ends : IsEnd said
  pub is : answer ≡ answers.Reply decision (Some said) []

-- a host that was asked has answered so, and the group is as before but for one request more
pub record IsServed (views : List View) (most known : ℕ) (t : Turn) : Type 0 where
  pub answer : IsEnded t.answer
  pub group : IsBank views (most + 1) t.common
  pub host : IsAwake known t.host

-- ---- a request

weaker : (views : List View) (most : ℕ) (c : Common) → IsBank views most c → IsBank views (most + 1) c
weaker views most c is =
    record { style = is.style; views_are = is.views_are; opening = is.opening; few = omega (arith, is.few) }

joined_few : (es : List Entry) (e : Entry) (most : ℕ) → length es ≤ most → length (es ++ e ∷ []) ≤ most + 1
joined_few es e most few = omega (arith, few, length-append es (e ∷ []))

-- whatever the journal says of it
admitted_served : (views : List View) (most known : ℕ) (c : Common) (h : Host) (host now : ℕ) (q : Request) (a : Admission) →
    IsBank views most c → IsAwake known h → IsServed views most known (admitted account_machine c h host now q Never false a)
unfolding answer_size reply_size
admitted_served views most known c h host now q (admissions.Expired expiration) is up =
    record { answer = record { decision = _; said = _; ends = (refl, lit≤ tt); is = refl }; group = weaker views most c is; host = up }
admitted_served views most known c h host now q (admissions.Same i) is up =
    record { answer = record { decision = _; said = _; ends = reply_brief c.opening c.journal i; is = refl }; group = weaker views most c is; host = up }
admitted_served views most known c h host now q (admissions.Other i) is up =
    record { answer = record { decision = _; said = _; ends = (refl, lit≤ tt); is = refl }; group = weaker views most c is; host = up }
admitted_served views most known c h host now q admissions.Full is up =
    record { answer = record { decision = _; said = _; ends = (refl, lit≤ tt); is = refl }; group = weaker views most c is; host = up }
admitted_served views most known c h host now q admissions.New is up =
    let i = length c.journal in
    let c' = with_ran (i + 1) (joined c now q) in
    record {
      answer = record {
        decision = decisions.Append i;
        said = repeated account_machine c' i;
        ends = reply_brief c.opening (joined c now q).journal i;
        is = ap (λ (style : Style). answers.Reply (decisions.Append i) (Some (repeated account_machine c' i)) (if is_passive style then [] else to_others c host (inners.Order i q))) is.style;
      };
      group = record { style = is.style; views_are = is.views_are; opening = is.opening; few = joined_few c.journal _ most is.few };
      host = record { up = up.up; knows = up.knows };
    }

-- a host whose rows let the request through
pub served : (views : List View) (most known : ℕ) (c : Common) (h : Host) (host : HostNo) (clock : Tick) (asked : Asked) (q : Request) →
    IsBank views most c → IsAwake known h → asked.bad_context ≡ None → known_then (length views) known asked.version ≡ known →
    request_in account_machine c host.0 known asked ≡ Ok q →
    IsServed views most known (turn account_machine c h (events.Request host clock asked Never) false)
served views most known c h host clock asked q is up good same passes =
    let h' : Host = record h { known = known } in
    let c' = with_ran (length c.journal) c in
    let now = max clock.0 c.time in
    let there = admitted_served views most known c' (caught_up c h') host.0 now q (admission c.journal now q)
    (record { style = is.style; views_are = is.views_are; opening = is.opening; few = is.few }) (record { up = up.up; knows = refl }) in
    let by : Bool → Option ℕ → ℕ → Result Request Refusal → Turn =
    λ b bad k r. if_up_by b bad (served_or account_machine c (record h { known = k }) host.0 clock.0 Never false r) in
    let knows : known_then (newest c) h.known asked.version ≡ known =
    (λ i. known_then (length (is.views_are i)) (up.knows i) asked.version) ∙ same in
    let reads = ap (λ (k : ℕ). request_in account_machine c host.0 k asked) knows ∙ passes in
    subst (IsServed views most known) (sym (λ i. by (up.up i) (good i) (knows i) (reads i)))
    (record { answer = there.answer; group = there.group; host = there.host })
  where
    if_up_by : Bool → Option ℕ → Turn → Turn
    if_up_by b bad t = if b then unless_bad bad c h t else unchanged c h answers.Down
