-- A request at a host.
use Rattle.std.specs.Prelude.{ℕ, ◌+◌, ◌-◌, max, Bool, false, if◌then◌else◌, List, [], ◌∷◌, ◌++◌, length, Option, Some, None, Result, Ok, Err}
use Rattle.ft_base.specs.Machine.{Machine}
use Rattle.ft_base.specs.Journal.{reply_at}
use Rattle.ft_base.specs.declared.limits.TheConstants.{JOURNAL_LIMIT}
use Rattle.ft_base.specs.declared.decisions.Decision.{Decision}
use Rattle.ft_base.specs.declared.decisions.Decision.TheVariants as decisions
use Rattle.ft_base.specs.declared.decisions.Stop.{Stop}
use Rattle.ft_base.specs.declared.decisions.Stop.TheVariants.{Never, AfterAppend, AfterExecute}
use Rattle.ft_base.specs.declared.requests.Request.{Request}
use Rattle.sys_faults.specs.declared.answers.Answer.{Answer}
use Rattle.sys_faults.specs.declared.answers.Answer.TheVariants.{Done}
use Rattle.sys_faults.specs.declared.faults.Completed.TheVariants.{Maybe}
use Rattle.sys_faults.specs.declared.faults.SysKind.TheVariants as kinds
use Rattle.group_model.specs.declared.asking.Asked.{Asked}
use Rattle.group_model.specs.declared.events.Inner.TheVariants as inners
use Rattle.group_model.specs.declared.events.GroupAnswer.{GroupAnswer}
use Rattle.group_model.specs.declared.events.GroupAnswer.TheVariants.{Reply}
use Rattle.group_model.specs.declared.events.Out.{Out}
use Rattle.group_model.specs.declared.refusals.Refusal.{Refusal}
use Rattle.group_model.specs.Plain.{Common, Host, blank, start_of, caught_up, moved_to, with_ran}
use Rattle.group_model.specs.Turns.{Turn, unchanged, costing}
use Rattle.ft_base.specs.Views.{is_passive}
use Rattle.group_model.specs.Views.{newest, to_others}
use Rattle.group_model.specs.Decisions.{fault, refusal, known_then, request_in}
use Rattle.ft_base.specs.Admissions.{admission}
use Rattle.ft_base.specs.declared.admissions.Admission.{Admission}
use Rattle.ft_base.specs.declared.admissions.Admission.TheVariants.{Expired, Same, Other, Full, New}

-- ---- the journal says no, or repeats

abbrev pub told : Decision → Answer → GroupAnswer
told decision answer = Reply decision (Some answer) []

-- the one reply of an entry
abbrev pub repeated : Machine → Common → ℕ → Answer
repeated m c i = Done (reply_at m c.opening c.journal i)

-- ---- a new request

-- the journal with a request, accepted now
abbrev pub joined : Common → ℕ → Request → Common
joined c now request = record c { journal = c.journal ++ record { at = now; request = request } ∷ []; time = now }

-- in an active group the entry goes to each other member of the newest view
abbrev pub orders : Common → ℕ → ℕ → Request → List Out
orders c host i request = if is_passive c.style then [] else to_others c host (inners.Order i request)

-- The request joins; then the host's servant runs it, unless the host stops before that. A host that stops
-- answers nothing, sends nothing and forgets everything.
abbrev pub accepted : Machine → Common → Host → ℕ → ℕ → Request → Stop → Turn
accepted m c h host now request Never =
    let i = length c.journal in
    let c' = with_ran (i + 1) (joined c now request) in
    record {
      common = c';
      host = moved_to (i + 1) h;
      answer = Reply (decisions.Append i) (Some (repeated m c' i)) (orders c host i request);
      calls = 1;
    }
accepted m c h host now request AfterAppend = record {
  common = joined c now request;
  host = blank false;
  answer = Reply (decisions.Append (length c.journal)) None [];
  calls = 0;
}
accepted m c h host now request AfterExecute = record {
  common = with_ran (length c.journal + 1) (joined c now request);
  host = blank false;
  answer = Reply (decisions.Append (length c.journal)) None [];
  calls = 1;
}

-- unless the log's write fails, which changes nothing
abbrev pub written : Machine → Common → Host → ℕ → ℕ → Request → Stop → Bool → Turn
written m c h host now request stop fails =
    if fails then unchanged c h (told decisions.LogFault (fault kinds.PersistStore 1 Maybe))
    else accepted m c h host now request stop

-- ---- the rows of the journal, at a host that has caught up

abbrev pub admitted : Machine → Common → Host → ℕ → ℕ → Request → Stop → Bool → Admission → Turn
admitted m c h host now request stop fails (Expired expiration) =
    unchanged c h (told (decisions.Expired expiration (record { 0 = now })) (refusal kinds.BadContext 1))
admitted m c h host now request stop fails (Same i) = unchanged c h (told (decisions.Repeat i) (repeated m c i))
admitted m c h host now request stop fails (Other i) = unchanged c h (told (decisions.Other i) (refusal kinds.BadContext 2))
admitted m c h host now request stop fails Full = unchanged c h (told (decisions.Full JOURNAL_LIMIT) (refusal kinds.NoResources 1))
admitted m c h host now request stop fails New = written m c h host now request stop fails

-- The group's time counts beside the host's clock, so that a clock that is behind accepts nothing again.
abbrev pub served : Machine → Common → Host → ℕ → ℕ → Request → Stop → Bool → Turn
served m c h host clock request stop fails =
    let now = max clock c.time in admitted m c h host now request stop fails (admission c.journal now request)

-- ---- the whole request

-- the servant calls of a host that catches up
abbrev pub calls_behind : Common → Host → ℕ
calls_behind c h = length c.journal - (start_of c h.place).position

-- the host catches up, and then the journal is asked
abbrev pub served_caught_up : Machine → Common → Host → ℕ → ℕ → Request → Stop → Bool → Turn
served_caught_up m c h host clock request stop fails =
    costing (calls_behind c h) (served m (with_ran (length c.journal) c) (caught_up c h) host clock request stop fails)

abbrev pub served_or : Machine → Common → Host → ℕ → ℕ → Stop → Bool → Result Request Refusal → Turn
served_or m c h host clock stop fails (Err refused) =
    unchanged c (record h { known = refused.known.0 }) (told refused.decision refused.answer)
served_or m c h host clock stop fails (Ok request) = served_caught_up m c h host clock request stop fails

-- what is asked of a host, once it knows what it looked up
abbrev pub asked_at : Machine → Common → Host → ℕ → ℕ → Asked → Stop → Bool → Turn
asked_at m c h host clock asked stop fails = served_or m c h host clock stop fails (request_in m c host h.known asked)

-- a request with a bad context goes no further
abbrev pub unless_bad : Option ℕ → Common → Host → Turn → Turn
unless_bad None c h turn = turn
unless_bad (Some id) c h turn = unchanged c h (told (decisions.Context id) (refusal kinds.BadContext 3))

abbrev pub on_request : Machine → Common → Host → ℕ → ℕ → Asked → Stop → Bool → Turn
on_request m c h host clock asked stop fails =
    unless_bad asked.bad_context c h
    (asked_at m c (record h { known = known_then (newest c) h.known asked.version }) host clock asked stop fails)
