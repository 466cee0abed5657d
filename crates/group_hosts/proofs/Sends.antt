-- What is sent to the other members, and what a passive group doesn't send.
use Rattle.std.proofs.Common.{◌≡◌, ℕ, ◌+◌, ◌<◌, Bool, true, false, cond, List, [], ◌∷◌, ◌++◌, length, take, get_or, Option, Some, refl, sym, ap, ◌∙◌}
use Rattle.std.specs.Prelude.{map, max, not, nat_eq, if◌then◌else◌}
use Rattle.std.proofs.lemmas.List.{map-append}
use Rattle.std.proofs.lemmas.List.Elements.{filter_more}
use Rattle.ft_base.specs.Machine.{Machine}
use Rattle.ft_base.specs.declared.decisions.Decision.{Decision}
use Rattle.ft_base.specs.declared.decisions.Decision.TheVariants as decisions
use Rattle.ft_base.specs.declared.decisions.Stop.{Stop}
use Rattle.ft_base.specs.declared.decisions.Stop.TheVariants.{Never, AfterAppend, AfterExecute}
use Rattle.ft_base.specs.declared.requests.Request.{Request}
use Rattle.sys_faults.specs.declared.answers.Answer.{Answer}
use Rattle.group_model.specs.declared.events.GroupAnswer.TheVariants.{Reply}
use Rattle.group_model.specs.declared.events.Inner.{Inner}
use Rattle.group_model.specs.declared.events.Inner.TheVariants as inners
use Rattle.group_model.specs.declared.events.Out.{Out}
use Rattle.ft_base.specs.Admissions.{admission}
use Rattle.ft_base.specs.declared.admissions.Admission.{Admission}
use Rattle.ft_base.specs.declared.admissions.Admission.TheVariants.{Expired, Same, Other, Full, New}
use Rattle.group_model.specs.Plain.{Common, Host, with_ran}
use Rattle.group_model.specs.Serving.{joined, accepted, admitted, orders, repeated}
use Rattle.group_model.specs.Turns.{Turn}
use Rattle.ft_base.specs.Views.{is_passive}
use Rattle.group_model.specs.Views.{host_no, sent_to, to_others, without}
use Rattle.passive_dispatch.specs.Served.{Seen, IsServed, shows_fault}
use Rattle.passive_dispatch.specs.declared.serving.Replied.{Replied}
use Rattle.passive_dispatch.specs.declared.serving.Served.TheVariants as serves
use Rattle.active_sequencer.specs.Sequences.{IsSequenced}

-- ---- to each other member

abbrev one_sent : Inner → ℕ → Out
one_sent carried m = record { to = host_no m; carried = carried }

pub sent_more : (host : ℕ) (carried : Inner) (members : List ℕ) (i d : ℕ) → i < length members →
    sent_to (without host (take (i + 1) members)) carried
    ≡ sent_to (without host (take i members)) carried ++ (if nat_eq (get_or members i d) host then [] else one_sent carried (get_or members i d) ∷ [])
sent_more host carried members i d lt =
    let m = get_or members i d in
    let front = without host (take i members) in
    ap (map (one_sent carried)) (filter_more (λ (k : ℕ). not (nat_eq k host)) members i d lt)
    ∙ map-append (one_sent carried) front (cond (not (nat_eq m host)) (m ∷ []) [])
    ∙ ap (λ (l : List Out). sent_to front carried ++ l) (go (nat_eq m host))
  where
    go : (b : Bool) → map (one_sent carried) (cond (not b) (get_or members i d ∷ []) []) ≡ cond b [] (one_sent carried (get_or members i d) ∷ [])
    go true = refl
    go false = refl

-- ---- a passive group sends nothing with a reply

-- a turn that answers a request and sends nothing
record IsQuiet (t : Turn) : Type 0 where
  decision : Decision
  answer : Option Answer
  told : t.answer ≡ Reply decision answer []

no_orders : (c : Common) (host i : ℕ) (q : Request) → is_passive c.style ≡ true → orders c host i q ≡ []
no_orders c host i q passive = ap (λ (b : Bool). if b then [] else to_others c host (inners.Order i q)) passive

quiet_accepted : (m : Machine) (c : Common) (h : Host) (host now : ℕ) (q : Request) (stop : Stop) → is_passive c.style ≡ true → IsQuiet (accepted m c h host now q stop)
quiet_accepted m c h host now q Never passive =
    let i = length c.journal in
    let decision = decisions.Append i in
    let answer = Some (repeated m (with_ran (i + 1) (joined c now q)) i) in
    record { decision = decision; answer = answer; told = ap (Reply decision answer) (no_orders c host i q passive) }
quiet_accepted m c h host now q AfterAppend passive = record { decision = _; answer = _; told = refl }
quiet_accepted m c h host now q AfterExecute passive = record { decision = _; answer = _; told = refl }

quiet_admitted : (m : Machine) (c : Common) (h : Host) (host now : ℕ) (q : Request) (stop : Stop) (fails : Bool) (a : Admission) → is_passive c.style ≡ true → IsQuiet (admitted m c h host now q stop fails a)
quiet_admitted m c h host now q stop fails (Expired e) passive = record { decision = _; answer = _; told = refl }
quiet_admitted m c h host now q stop fails (Same i) passive = record { decision = _; answer = _; told = refl }
quiet_admitted m c h host now q stop fails (Other i) passive = record { decision = _; answer = _; told = refl }
quiet_admitted m c h host now q stop fails Full passive = record { decision = _; answer = _; told = refl }
quiet_admitted m c h host now q stop true New passive = record { decision = _; answer = _; told = refl }
quiet_admitted m c h host now q stop false New passive = quiet_accepted m c h host now q stop passive

pub passive_done : (machines : ℕ → Machine) (c : Common) (h : Host) (host clock : ℕ) (q : Request) (stop : Stop) (r : Replied) (before now : Seen) → is_passive c.style ≡ true →
    IsServed machines c h host clock q stop (serves.Done r) before now → IsSequenced machines c h host clock q stop (serves.Done r) before now
passive_done machines c h host clock q stop r before now passive is =
    let d = r.decision in
    let a = r.answer in
    let quiet = quiet_admitted (machines c.kind) c h host (max clock c.time) q stop (shows_fault d) (admission c.journal (max clock c.time) q) passive in
    let same : Reply d a is.out ≡ Reply quiet.decision quiet.answer [] = sym is.told ∙ quiet.told in
    let none : is.out ≡ [] = cc in
    record { log = is.log; replica = is.replica; told = is.told ∙ ap (Reply d a) (none ∙ sym is.none); calls = is.calls }
