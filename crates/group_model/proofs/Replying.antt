-- A request is told the one reply of its own entry, or of the one that it repeats.
use Rattle.std.proofs.Common.{◌≡◌, ℕ, max, Bool, true, false, List, [], ◌∷◌, ◌++◌, length, Option, Some, None, Result, Ok, Err, refl, sym, ap, ◌∙◌}
use Rattle.ft_base.specs.Machine.{Machine}
use Rattle.ft_base.specs.Admissions.{admission}
use Rattle.ft_base.specs.declared.admissions.Admission.{Admission}
use Rattle.ft_base.specs.declared.admissions.Admission.TheVariants.{Expired, Same, Other, Full, New}
use Rattle.ft_base.specs.declared.decisions.Decision.{Decision}
use Rattle.ft_base.specs.declared.decisions.Decision.TheVariants as decisions
use Rattle.ft_base.specs.declared.decisions.Stop.{Stop}
use Rattle.ft_base.specs.declared.decisions.Stop.TheVariants.{Never, AfterAppend, AfterExecute}
use Rattle.ft_base.specs.declared.numbers.HostNo.{HostNo}
use Rattle.ft_base.specs.declared.numbers.Tick.{Tick}
use Rattle.ft_base.specs.declared.requests.Request.{Request}
use Rattle.sys_faults.specs.declared.answers.Answer.{Answer}
use Rattle.sys_faults.specs.declared.answers.Answer.TheVariants.{Done, System, Forward, ForwardPerm}
use Rattle.group_model.specs.declared.asking.Asked.{Asked}
use Rattle.group_model.specs.declared.events.Event.TheVariants as events
use Rattle.group_model.specs.declared.events.GroupAnswer.TheVariants.{Down}
use Rattle.group_model.specs.declared.refusals.Refusal.{Refusal}
use Rattle.group_model.specs.Plain.{Common, Host, Group, with_ran, caught_up}
use Rattle.group_model.specs.Turns.{Turn, unchanged}
use Rattle.group_model.specs.Asking.{asked_version}
use Rattle.group_model.specs.Views.{newest}
use Rattle.group_model.specs.Decisions.{args_for, known_then, refused_by_view, request_in, request_named, request_with}
use Rattle.group_model.specs.Serving.{accepted, admitted, on_request, served_or, unless_bad}
use Rattle.group_model.specs.Events.{after_event, if_up, turn_of}
use Rattle.group_model.specs.Counting.{asks_journal}
use Rattle.group_model.specs.Replying.{IsAnsweredAs, IsDecidedAs, IsEntryOf}
use Rattle.group_model.proofs.Answering.{IfSame, Repeats, key_repeats}
use Rattle.group_model.proofs.Growing.{either}
use Rattle.group_model.proofs.Knowing.{ErrIs, IsToldAt, request_is}
use Rattle.group_model.proofs.Reading.{OkIs, ok_so, unless_ok}
use Rattle.group_model.proofs.Sending.{got_pushed}

-- ---- the request that is looked up has the key and the operation that are asked

record IsAsked (asked : Asked) (q : Request) : Type 0 where
  key : q.key ≡ asked.key
  op : Some q.op ≡ asked.op

with_asked : (asked : Asked) (op : List ℕ) (r : Result (List ℕ) Refusal) → asked.op ≡ Some op → OkIs (IsAsked asked) (request_with asked op r)
with_asked asked op (Err refused) is = tt
with_asked asked op (Ok args) is = record { key = refl; op = sym is }

named_asked : (m : Machine) (known : ℕ) (asked : Asked) (op : Option (List ℕ)) → asked.op ≡ op → OkIs (IsAsked asked) (request_named m known asked op)
named_asked m known asked None is = tt
named_asked m known asked (Some op) is = with_asked asked op (args_for known (m.signature op) asked.body) is

request_asked : (m : Machine) (c : Common) (host known : ℕ) (asked : Asked) → OkIs (IsAsked asked) (request_in m c host known asked)
request_asked m c host known asked =
    unless_ok (IsAsked asked) (refused_by_view c host (asked_version known asked.version) known) (request_named m known asked asked.op)
    (named_asked m known asked asked.op refl)

-- ---- a turn

abbrev TellsOf : Machine → Asked → Turn → Type 0
TellsOf m asked t = IsAnsweredAs m t.common asked t.answer

-- a refusal before the journal is asked tells no outcome
refused_tells : (m : Machine) (c : Common) (asked : Asked) (known : ℕ) (decision : Decision) (answer : Answer) →
    asks_journal decision ≡ false → IsToldAt known answer → IsDecidedAs m c asked decision (Some answer)
refused_tells m c asked known decision (Done outcome) quiet told = absurd told
refused_tells m c asked known decision (System fault) quiet told = no_outcome decision quiet where
  no_outcome : (d : Decision) → asks_journal d ≡ false → IsDecidedAs m c asked d (Some (System fault))
  no_outcome (decisions.Append i) e = absurd cc
  no_outcome (decisions.Repeat i) e = absurd cc
  no_outcome other e = tt
refused_tells m c asked known decision (Forward version) quiet told = no_outcome decision quiet where
  no_outcome : (d : Decision) → asks_journal d ≡ false → IsDecidedAs m c asked d (Some (Forward version))
  no_outcome (decisions.Append i) e = absurd cc
  no_outcome (decisions.Repeat i) e = absurd cc
  no_outcome other e = tt
refused_tells m c asked known decision (ForwardPerm version) quiet told = no_outcome decision quiet where
  no_outcome : (d : Decision) → asks_journal d ≡ false → IsDecidedAs m c asked d (Some (ForwardPerm version))
  no_outcome (decisions.Append i) e = absurd cc
  no_outcome (decisions.Repeat i) e = absurd cc
  no_outcome other e = tt

entry_of : (c : Common) (asked : Asked) (q : Request) (now : ℕ) → IsAsked asked q →
    IsEntryOf (c.journal ++ record { at = now; request = q } ∷ []) asked (length c.journal)
entry_of c asked q now is =
    record { entry = record { at = now; request = q }; at = got_pushed c.journal (record { at = now; request = q }); key = is.key; op = is.op }

accepted_tells : (m : Machine) (c : Common) (h : Host) (host now : ℕ) (asked : Asked) (q : Request) (stop : Stop) → IsAsked asked q →
    TellsOf m asked (accepted m c h host now q stop)
accepted_tells m c h host now asked q Never is = (entry_of c asked q now is, refl)
accepted_tells m c h host now asked q AfterAppend is = (entry_of c asked q now is, tt)
accepted_tells m c h host now asked q AfterExecute is = (entry_of c asked q now is, tt)

repeat_of : (c : Common) (asked : Asked) (q : Request) (i : ℕ) → IsAsked asked q → Repeats c.journal q i → IsEntryOf c.journal asked i
repeat_of c asked q i is repeats =
    record { entry = repeats.entry; at = repeats.at; key = repeats.same_key ∙ is.key; op = ap Some (sym repeats.same_op) ∙ is.op }

admitted_tells : (m : Machine) (c : Common) (h : Host) (host now : ℕ) (asked : Asked) (q : Request) (stop : Stop) (fails : Bool) (a : Admission) →
    IsAsked asked q → IfSame (Repeats c.journal q) a → TellsOf m asked (admitted m c h host now q stop fails a)
admitted_tells m c h host now asked q stop fails (Expired e) is repeats = tt
admitted_tells m c h host now asked q stop fails (Same i) is repeats = (repeat_of c asked q i is repeats, refl)
admitted_tells m c h host now asked q stop fails (Other i) is repeats = tt
admitted_tells m c h host now asked q stop fails Full is repeats = tt
admitted_tells m c h host now asked q stop true New is repeats = tt
admitted_tells m c h host now asked q stop false New is repeats = accepted_tells m c h host now asked q stop is

served_or_tells : (m : Machine) (c : Common) (h : Host) (host clock : ℕ) (asked : Asked) (stop : Stop) (fails : Bool) (r : Result Request Refusal) →
    ErrIs (λ x. IsDecidedAs m c asked x.decision (Some x.answer)) r → ((q : Request) → r ≡ Ok q → IsAsked asked q) →
    TellsOf m asked (served_or m c h host clock stop fails r)
served_or_tells m c h host clock asked stop fails (Err refused) told is = told
served_or_tells m c h host clock asked stop fails (Ok q) told is =
    let now = max clock c.time in
    admitted_tells m (with_ran (length c.journal) c) (caught_up c h) host now asked q stop fails (admission c.journal now q) (is q refl)
    (key_repeats c.journal now q q.key refl)

unless_bad_tells : (m : Machine) (asked : Asked) (bad : Option ℕ) (c : Common) (h : Host) (t : Turn) → TellsOf m asked t → TellsOf m asked (unless_bad bad c h t)
unless_bad_tells m asked None c h t tells = tells
unless_bad_tells m asked (Some id) c h t tells = tt

request_tells : (m : Machine) (c : Common) (h : Host) (host clock : ℕ) (asked : Asked) (stop : Stop) (fails : Bool) →
    TellsOf m asked (on_request m c h host clock asked stop fails)
request_tells m c h host clock asked stop fails =
    let known = known_then (newest c) h.known asked.version in
    let h' : Host = record h { known = known } in
    unless_bad_tells m asked asked.bad_context c h (served_or m c h' host clock stop fails (request_in m c host known asked))
    (served_or_tells m c h' host clock asked stop fails (request_in m c host known asked)
    (request_is (λ x. IsDecidedAs m c asked x.decision (Some x.answer)) m c host known asked
    (λ d a e told. refused_tells m c asked known d a e told) (λ d a e told. refused_tells m c asked (newest c) d a e told))
    (λ q is. ok_so (IsAsked asked) (request_in m c host known asked) q is (request_asked m c host known asked)))

pub entries_are_replied : (m : Machine) (g : Group) (fails : Bool) (host : HostNo) (clock : Tick) (asked : Asked) (stop : Stop) →
    IsAnsweredAs m (after_event m g (events.Request host clock asked stop) fails).common asked
    (turn_of m g (events.Request host clock asked stop) fails).answer
entries_are_replied m g fails host clock asked stop =
    let c = g.common in
    let h = g.hosts host.0 in
    either (TellsOf m asked) h.up (on_request m c h host.0 clock.0 asked stop fails) (unchanged c h Down)
    (request_tells m c h host.0 clock.0 asked stop fails) tt
