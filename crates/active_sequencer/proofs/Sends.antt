-- What a host of an active group sends with its answer.
use Rattle.std.proofs.Common.{◌≡◌, ℕ, ◌+◌, ◌<◌, Bool, true, false, cond, List, [], ◌∷◌, ◌++◌, length, take, get_or, Option, None, refl, sym, ap, subst, ◌∙◌}
use Rattle.std.specs.Prelude.{map, max, not, nat_eq, if◌then◌else◌}
use Rattle.std.proofs.lemmas.List.{map-append}
use Rattle.std.proofs.lemmas.List.Elements.{filter_more}
use Rattle.ft_base.specs.Machine.{Machine}
use Rattle.ft_base.specs.declared.decisions.Decision.{Decision}
use Rattle.ft_base.specs.declared.decisions.Decision.TheVariants as decisions
use Rattle.ft_base.specs.declared.decisions.Stop.{Stop}
use Rattle.ft_base.specs.declared.decisions.Stop.TheVariants.{Never, AfterAppend, AfterExecute}
use Rattle.ft_base.specs.declared.requests.Request.{Request}
use Rattle.ft_base.specs.declared.views.Style.{Style}
use Rattle.ft_base.specs.declared.views.Style.TheVariants.{Active}
use Rattle.ft_base.specs.declared.views.View.{View}
use Rattle.sys_faults.specs.declared.answers.Answer.{Answer}
use Rattle.message_log.specs.Picture.{Picture as LogPicture, length_of}
use Rattle.group_model.specs.declared.events.GroupAnswer.{GroupAnswer}
use Rattle.group_model.specs.declared.events.GroupAnswer.TheVariants.{Reply}
use Rattle.group_model.specs.declared.events.Inner.{Inner}
use Rattle.group_model.specs.declared.events.Inner.TheVariants as inners
use Rattle.group_model.specs.declared.events.Out.{Out}
use Rattle.ft_base.specs.Admissions.{admission}
use Rattle.ft_base.specs.declared.admissions.Admission.{Admission}
use Rattle.ft_base.specs.declared.admissions.Admission.TheVariants.{Expired, Same, Other, Full, New}
use Rattle.group_model.specs.Plain.{Common, Host}
use Rattle.group_model.specs.Serving.{accepted, admitted, served, orders}
use Rattle.ft_base.specs.Views.{is_passive}
use Rattle.group_model.specs.Views.{host_no, sent_to, to_others, without}
use Rattle.group_stands.specs.Telling.{LogsTell, Tells}
use Rattle.passive_dispatch.specs.Served.{Seen, IsServed, shows_fault}
use Rattle.passive_dispatch.specs.declared.serving.Replied.{Replied}
use Rattle.passive_dispatch.specs.declared.serving.Served.TheVariants.{Done}
use Rattle.active_sequencer.specs.Sequences.{CanSequence, IsSequenced, sending, sent_with}

-- ---- to each other member

abbrev one_sent : Inner → ℕ → Out
one_sent carried m = record { to = host_no m; carried = carried }

pub sends_more : (host : ℕ) (carried : Inner) (members : List ℕ) (i d : ℕ) → i < length members →
    sent_to (without host (take (i + 1) members)) carried
    ≡ sent_to (without host (take i members)) carried ++ (if nat_eq (get_or members i d) host then [] else one_sent carried (get_or members i d) ∷ [])
sends_more host carried members i d lt =
    let m = get_or members i d in
    let front = without host (take i members) in
    ap (map (one_sent carried)) (filter_more (λ (k : ℕ). not (nat_eq k host)) members i d lt)
    ∙ map-append (one_sent carried) front (cond (not (nat_eq m host)) (m ∷ []) [])
    ∙ ap (λ (l : List Out). sent_to front carried ++ l) (go (nat_eq m host))
  where
    go : (b : Bool) → map (one_sent carried) (cond (not b) (get_or members i d ∷ []) []) ≡ cond b [] (one_sent carried (get_or members i d) ∷ [])
    go true = refl
    go false = refl

-- ---- what a turn sends

-- a reply with this is one with that
abbrev out_of : GroupAnswer → List Out
out_of (Reply d a out) = out
out_of other = []

abbrev decision_of : GroupAnswer → Decision
decision_of (Reply d a out) = d
decision_of other = decisions.LogFault

abbrev answer_in : GroupAnswer → Option Answer
answer_in (Reply d a out) = a
answer_in other = None

-- it sends what goes with its decision and its answer
SendsWith : GroupAnswer → List Out → Type 0
SendsWith answer sent = out_of answer ≡ sent_with (decision_of answer) (answer_in answer) sent

module _ (m : Machine) (c : Common) (h : Host) (host now : ℕ) (request : Request) where
  accepted_sends : (stop : Stop) → SendsWith (accepted m c h host now request stop).answer (orders c host (length c.journal) request)
  unfolding SendsWith
  accepted_sends Never = refl
  accepted_sends AfterAppend = refl
  accepted_sends AfterExecute = refl

  admitted_sends : (stop : Stop) (fails : Bool) (a : Admission) → SendsWith (admitted m c h host now request stop fails a).answer (orders c host (length c.journal) request)
  unfolding SendsWith
  admitted_sends stop fails (Expired expiration) = refl
  admitted_sends stop fails (Same i) = refl
  admitted_sends stop fails (Other i) = refl
  admitted_sends stop fails Full = refl
  admitted_sends stop true New = refl
  admitted_sends stop false New = accepted_sends stop

-- so a turn that told this sent that
told_sends : (answer : GroupAnswer) (d : Decision) (a : Option Answer) (out sent : List Out) → SendsWith answer sent → answer ≡ Reply d a out → out ≡ sent_with d a sent
unfolding SendsWith
told_sends answer d a out sent sends told = subst (λ (x : GroupAnswer). out_of x ≡ sent_with (decision_of x) (answer_in x) sent) told sends

-- ---- the orders that were made before

-- they are those of the group's next entry
orders_are : (c : Common) (log : LogPicture) (host : ℕ) (request : Request) → Tells c log → c.style ≡ Active →
    sent_to (without host log.newest.members) (inners.Order (length_of log) request) ≡ orders c host (length c.journal) request
orders_are c log host request tells active =
    ap (λ (v : View). sent_to (without host v.members) (inners.Order (length_of log) request)) tells.view
    ∙ ap (λ (n : ℕ). to_others c host (inners.Order n request)) tells.end
    ∙ ap (λ (s : Style). cond (is_passive s) [] (to_others c host (inners.Order (length c.journal) request))) (sym active)

pub sequenced : LogsTell → (machines : ℕ → Machine) (c : Common) (h : Host) (host version clock : ℕ) (request : Request) (stop : Stop) (r : Replied) (made : List Out) (before now : Seen) →
    CanSequence machines c h.place version request before → IsServed machines c h host clock request stop (Done r) before now →
    made ≡ sent_to (without host before.log.newest.members) (inners.Order (length_of before.log) request) →
    IsSequenced machines c h host clock request stop (Done (sending (sent_with r.decision r.answer made) r)) before now
sequenced law machines c h host version clock request stop r made before now can is makes =
    let m = machines c.kind in
    let d = r.decision in
    let a = r.answer in
    let moment = max clock c.time in
    let of = orders c host (length c.journal) request in
    let same : made ≡ of = makes ∙ orders_are c before.log host request (law machines c before.log can.can_serve.log) can.active in
    let sent = told_sends (served m c h host clock request stop (shows_fault d)).answer d a is.out of
    (admitted_sends m c h host moment request stop (shows_fault d) (admission c.journal moment request)) is.told in
    let outs : is.out ≡ sent_with d a made = sent ∙ sym (ap (sent_with d a) same) in
    record {
      log = is.log;
      replica = is.replica;
      told = is.told ∙ ap (Reply d a) outs;
      calls = is.calls;
    }
