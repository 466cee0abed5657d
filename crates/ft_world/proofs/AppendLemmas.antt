-- A request that is appended comes to the journal's end.
use Rattle.std.proofs.Common.{◌≡◌, ℕ, max, Bool, true, false, nat_lt, if◌then◌else◌, List, [], ◌∷◌, length, Option, Some, None, IfSome, Result, Ok, Err, IfErr, refl}
use Rattle.std.specs.List.{AllByRecursion}
use Rattle.ft_base.specs.Admissions.{admission}
use Rattle.ft_base.specs.Machine.{Machine}
use Rattle.ft_base.specs.declared.admissions.Admission.{Admission}
use Rattle.ft_base.specs.declared.admissions.Admission.TheVariants as admissions
use Rattle.ft_base.specs.declared.decisions.Decision.{Decision}
use Rattle.ft_base.specs.declared.decisions.Decision.TheVariants as decisions
use Rattle.ft_base.specs.declared.decisions.Stop.{Stop}
use Rattle.ft_base.specs.declared.decisions.Stop.TheVariants.{Never, AfterAppend, AfterExecute}
use Rattle.ft_base.specs.declared.limits.TheConstants.{ARGUMENTS_LIMIT}
use Rattle.ft_base.specs.declared.numbers.HostNo.{HostNo}
use Rattle.ft_base.specs.declared.numbers.Tick.{Tick}
use Rattle.ft_base.specs.declared.requests.Request.{Request}
use Rattle.ft_base.specs.declared.requests.Signature.{Signature}
use Rattle.cdr_codec.specs.declared.bodies.Raw.{Raw}
use Rattle.group_model.specs.declared.asking.Asked.{Asked}
use Rattle.group_model.specs.declared.events.Event.TheVariants as events
use Rattle.group_model.specs.declared.events.GroupAnswer.{GroupAnswer}
use Rattle.group_model.specs.declared.events.GroupAnswer.TheVariants as group_answers
use Rattle.group_model.specs.declared.refusals.Refusal.{Refusal}
use Rattle.group_model.specs.Asking.{args_read, asked_version}
use Rattle.group_model.specs.Decisions.{Row, args_for, args_within, first_row, known_then, request_in, request_named, request_with, unless_refused, view_rows}
use Rattle.group_model.specs.Events.{turn_of}
use Rattle.group_model.specs.Plain.{Common, Group, Host, caught_up, with_ran}
use Rattle.group_model.specs.Serving.{accepted, admitted, asked_at, served_or, unless_bad, written}
use Rattle.group_model.specs.Turns.{Turn, unchanged}
use Rattle.group_model.specs.Views.{newest, newest_view, view_at}

-- behind so many entries
abbrev IsLast : ℕ → Decision → Type 0
IsLast n (decisions.Append i) = i ≡ n
IsLast n other = Unit {0}

abbrev pub AnswersLast : ℕ → GroupAnswer → Type 0
AnswersLast n (group_answers.Reply decision answer out) = IsLast n decision
AnswersLast n other = Unit {0}

module _ (n : ℕ) where
  abbrev RefusesLast : Refusal → Type 0
  RefusesLast refused = IsLast n refused.decision

  -- ---- no refusal appends

  row_last : (rows : List Row) → AllByRecursion (λ (r : Row). RefusesLast r.refused) rows → IfSome (first_row rows) RefusesLast
  row_last [] all = tt
  row_last (r ∷ rows) all = one r.stands (row_last rows all.1)
    where
      one : (b : Bool) → IfSome (first_row rows) RefusesLast → IfSome (if b then Some r.refused else first_row rows) RefusesLast
      one true rest = all.0
      one false rest = rest

  either_last : (b : Bool) (refused : Refusal) (args : List ℕ) → RefusesLast refused → IfErr (if b then Err refused else Ok args) RefusesLast
  either_last true refused args last = last
  either_last false refused args last = tt

  within_last : (known : ℕ) (r : Result (List ℕ) ℕ) → IfErr (args_within known r) RefusesLast
  within_last known (Err place) = tt
  within_last known (Ok args) = either_last (nat_lt ARGUMENTS_LIMIT (length args)) _ args tt

  args_last : (known : ℕ) (signature : Option Signature) (body : Raw) → IfErr (args_for known signature body) RefusesLast
  args_last known None body = tt
  args_last known (Some signature) body = within_last known (args_read body signature)

  with_last : (asked : Asked) (op : List ℕ) (r : Result (List ℕ) Refusal) → IfErr r RefusesLast → IfErr (request_with asked op r) RefusesLast
  with_last asked op (Err refused) last = last
  with_last asked op (Ok args) last = tt

  named_last : (m : Machine) (known : ℕ) (asked : Asked) (op : Option (List ℕ)) → IfErr (request_named m known asked op) RefusesLast
  named_last m known asked None = tt
  named_last m known asked (Some op) = with_last asked op (args_for known (m.signature op) asked.body) (args_last known (m.signature op) asked.body)

  unless_last : (o : Option Refusal) (r : Result Request Refusal) → IfSome o RefusesLast → IfErr r RefusesLast → IfErr (unless_refused o r) RefusesLast
  unless_last None r rows request = request
  unless_last (Some refused) r rows request = rows

  request_last : (m : Machine) (c : Common) (host known : ℕ) (asked : Asked) → IfErr (request_in m c host known asked) RefusesLast
  request_last m c host known asked =
      let rows : List Row = view_rows c.style host (asked_version known asked.version) known (view_at c.views known) (newest c) (newest_view c) in
      unless_last (first_row rows) (request_named m known asked asked.op) (row_last rows (tt, (tt, (tt, (tt, (tt, (tt, (tt, tt)))))))) (named_last m known asked asked.op)

-- ---- the journal's end

abbrev TurnsLast : Common → Turn → Type 0
TurnsLast c t = AnswersLast (length c.journal) t.answer

accepted_last : (m : Machine) (c : Common) (h : Host) (host now : ℕ) (request : Request) (stop : Stop) → TurnsLast c (accepted m c h host now request stop)
accepted_last m c h host now request Never = refl
accepted_last m c h host now request AfterAppend = refl
accepted_last m c h host now request AfterExecute = refl

written_last : (m : Machine) (c : Common) (h : Host) (host now : ℕ) (request : Request) (stop : Stop) (fails : Bool) → TurnsLast c (written m c h host now request stop fails)
written_last m c h host now request stop true = tt
written_last m c h host now request stop false = accepted_last m c h host now request stop

admitted_last : (m : Machine) (c : Common) (h : Host) (host now : ℕ) (request : Request) (stop : Stop) (fails : Bool) (a : Admission) →
    TurnsLast c (admitted m c h host now request stop fails a)
admitted_last m c h host now request stop fails admissions.New = written_last m c h host now request stop fails
admitted_last m c h host now request stop fails (admissions.Expired expiration) = tt
admitted_last m c h host now request stop fails (admissions.Same i) = tt
admitted_last m c h host now request stop fails (admissions.Other i) = tt
admitted_last m c h host now request stop fails admissions.Full = tt

served_last : (m : Machine) (c : Common) (h : Host) (host clock : ℕ) (stop : Stop) (fails : Bool) (r : Result Request Refusal) →
    IfErr r (RefusesLast (length c.journal)) → TurnsLast c (served_or m c h host clock stop fails r)
served_last m c h host clock stop fails (Err refused) last = last
served_last m c h host clock stop fails (Ok request) last =
    admitted_last m (with_ran (length c.journal) c) (caught_up c h) host (max clock c.time) request stop fails (admission c.journal (max clock c.time) request)

asked_last : (bad : Option ℕ) (c : Common) (h : Host) (t : Turn) → TurnsLast c t → TurnsLast c (unless_bad bad c h t)
asked_last None c h t last = last
asked_last (Some id) c h t last = tt

up_last : (b : Bool) (c : Common) (h : Host) (t : Turn) → TurnsLast c t → TurnsLast c (if b then t else unchanged c h group_answers.Down)
up_last true c h t last = last
up_last false c h t last = tt

pub appended_last : (m : Machine) (g : Group) (host : HostNo) (clock : Tick) (asked : Asked) (stop : Stop) (fails : Bool) →
    TurnsLast g.common (turn_of m g (events.Request host clock asked stop) fails)
appended_last m g host clock asked stop fails =
    let c : Common = g.common in
    let h : Host = g.hosts host.0 in
    let known : ℕ = known_then (newest c) h.known asked.version in
    let knows : Host = record h { known = known } in
    let t : Turn = asked_at m c knows host.0 clock.0 asked stop fails in
    up_last h.up c h (unless_bad asked.bad_context c h t)
    (asked_last asked.bad_context c h t
    (served_last m c knows host.0 clock.0 stop fails (request_in m c host.0 known asked) (request_last (length c.journal) m c host.0 known asked)))
