-- Groups of a small servant, computed: each list of events with the answers that it gets.
use Rattle.std.specs.Prelude.{◌≡◌, ℕ, true, false, List, [], ◌∷◌, ◌++◌, codes, if◌then◌else◌, Option, Some, None}
use Rattle.std.proofs.Common.{refl}
use Rattle.std.specs.Prelude.{pos}
use Rattle.std.specs.Str.{bytes_eq}
use Rattle.ft_base.specs.Machine.{Machine}
use Rattle.ft_base.specs.Journal.{after, reply_at, last_place}
use Rattle.ft_base.specs.declared.decisions.Decision.TheVariants as decisions
use Rattle.ft_base.specs.declared.decisions.Stop.{Stop}
use Rattle.ft_base.specs.declared.decisions.Stop.TheVariants.{Never, AfterAppend}
use Rattle.ft_base.specs.declared.numbers.Version.{Version}
use Rattle.ft_base.specs.declared.requests.Request.{Request}
use Rattle.ft_base.specs.declared.requests.Outcome.TheVariants.{Value}
use Rattle.ft_base.specs.declared.views.Style.TheVariants.{Cold, Warm, Active}
use Rattle.ft_base.specs.declared.views.View.{View}
use Rattle.cdr_codec.specs.declared.orders.Order.TheVariants.{Big}
use Rattle.cdr_codec.specs.Formats.{read_each}
use Rattle.ft_base.specs.declared.decisions.Decision.{Decision}
use Rattle.ft_base.specs.declared.decisions.Ignored.TheVariants as causes
use Rattle.sys_faults.specs.declared.answers.Answer.{Answer}
use Rattle.sys_faults.specs.declared.answers.Answer.TheVariants.{Done, ForwardPerm}
use Rattle.sys_faults.specs.declared.faults.Completed.TheVariants.{Maybe}
use Rattle.sys_faults.specs.declared.faults.SysKind.TheVariants as kinds
use Rattle.group_model.specs.Decisions.{fault, refusal}
use Rattle.group_model.specs.declared.asking.Asked.{Asked}
use Rattle.group_model.specs.declared.changes.Change.TheVariants.{Report, Add}
use Rattle.group_model.specs.declared.events.Event.{Event}
use Rattle.group_model.specs.declared.events.Event.TheVariants as events
use Rattle.group_model.specs.declared.events.GroupAnswer.{GroupAnswer}
use Rattle.group_model.specs.declared.events.GroupAnswer.TheVariants.{Reply, Known, Changed, Taken, Applied, Held, Ignored, Down, Up}
use Rattle.group_model.specs.declared.events.Inner.TheVariants as inners
use Rattle.group_model.specs.Plain.{Group, past_held}
use Rattle.group_model.specs.Asking.{args_read}
use Rattle.group_model.specs.Views.{version, host_no, sent_to}
use Rattle.group_model.specs.Openings.{opening_group}
use Rattle.group_model.specs.Runs.{Step, answers_to, calls_of, after_steps}

-- a servant that counts: each request adds a byte to its state, and gives the state of before
abbrev counter : Machine
counter = record {
  signature = λ op. if bytes_eq op (codes "next") then Some (record { first = None; second = None; gives = None }) else None;
  is_state = λ s. true;
  step = λ s q. (s ++ 7 ∷ [], Value s);
  delta = λ s t. t;
  applied = λ s u. Some u;
}

-- ann's request with this retention id and expiration, for this version of the group's reference
abbrev asks : ℕ → ℕ → Option Version → Asked
asks retention until known = record {
  version = known;
  key = Some (record { client = codes "ann"; retention = record { 0 = pos retention }; expiration = record { 0 = until } });
  bad_context = None;
  op = Some (codes "next");
  body = record { order = Big; align = 0; bytes = [] };
}

abbrev step_of : Event → Step
step_of e = record { event = e; fails = false }

-- at a host whose clock shows 0
abbrev request_until : ℕ → ℕ → ℕ → Option Version → Stop → Step
request_until host retention until known stop =
    step_of (events.Request (host_no host) (record { 0 = 0 }) (asks retention until known) stop)

abbrev request : ℕ → ℕ → Option Version → Step
request host retention known = request_until host retention 1000 known Never

abbrev first_version : Option Version
first_version = Some (version 1)

abbrev second_version : Option Version
second_version = Some (version 2)

abbrev gave : ℕ → List ℕ → GroupAnswer
gave i value = Reply (decisions.Append i) (Some (Done (Value value))) []

abbrev refused : Decision → Answer → GroupAnswer
refused decision answer = Reply decision (Some answer) []

abbrev cold : Group
cold = opening_group 1 Cold 0 [] (0 ∷ 1 ∷ [])

abbrev second : View
second = record { version = version 2; members = 1 ∷ []; primary = Some (host_no 1) }

abbrev reported : ℕ → Step
reported host = step_of (events.Manage (Report (host_no host)))

abbrev view_at_host : ℕ → ℕ → Step
view_at_host host n = step_of (events.View (host_no host) (version n))

-- The primary stops between the append and the run. The second member takes over: it forwards the client to the
-- newest reference, and answers the repeat from the first acceptance. The servant is called once.
abbrev takeover : List Step
takeover =
    request_until 0 1 1000 first_version AfterAppend ∷ reported 0 ∷ view_at_host 1 2 ∷ request 1 1 first_version ∷ request 1 1 second_version ∷ []

takeover_answers : answers_to counter cold takeover ≡
    Reply (decisions.Append 0) None []
    ∷ Changed second (sent_to (0 ∷ 1 ∷ []) (inners.View (version 2)))
    ∷ Known (version 2)
    ∷ refused (decisions.Older (version 1) (version 2)) (ForwardPerm (version 2))
    ∷ refused (decisions.Repeat 0) (Done (Value []))
    ∷ []
unfolding answers_to after reply_at last_place args_read read_each
takeover_answers = refl

takeover_calls : calls_of counter cold takeover ≡ 1
unfolding calls_of after reply_at last_place args_read read_each
takeover_calls = refl

-- A false suspicion: the primary of before, which hears nothing of the new view, appends nothing and runs nothing,
-- and knows the new view from then on.
abbrev suspicion : List Step
suspicion = reported 0 ∷ request 0 1 None ∷ request 0 2 first_version ∷ []

suspicion_answers : answers_to counter cold suspicion ≡
    Changed second (sent_to (0 ∷ 1 ∷ []) (inners.View (version 2)))
    ∷ refused (decisions.Deposed (version 1) (version 2)) (ForwardPerm (version 2))
    ∷ refused (decisions.Older (version 1) (version 2)) (ForwardPerm (version 2))
    ∷ []
unfolding answers_to after reply_at last_place args_read read_each
suspicion_answers = refl

suspicion_journal : (after_steps counter cold suspicion).common.journal ≡ []
unfolding after_steps after reply_at last_place args_read read_each
suspicion_journal = refl

-- The new primary is asked for a version of which it hasn't heard: it looks up the newest.
looked_up : answers_to counter cold (reported 0 ∷ request 1 1 second_version ∷ []) ≡
    Changed second (sent_to (0 ∷ 1 ∷ []) (inners.View (version 2))) ∷ gave 0 [] ∷ []
unfolding answers_to after reply_at last_place args_read read_each
looked_up = refl

-- The log's time outlives the clocks: after a checkpoint at 100 and a stop of all, a host whose clock is back at 0
-- refuses what expired at 90.
abbrev restarted : List Step
restarted =
    request_until 0 1 90 first_version Never
    ∷ step_of (events.Checkpoint (host_no 0) (record { 0 = 100 }))
    ∷ step_of (events.Crash (host_no 0))
    ∷ step_of (events.Crash (host_no 1))
    ∷ step_of (events.Restart (host_no 0))
    ∷ request_until 0 1 90 first_version Never
    ∷ []

restarted_answers : answers_to counter cold restarted ≡
    gave 0 [] ∷ Taken 0 1 [] ∷ Down ∷ Down ∷ Up
    ∷ refused (decisions.Expired (record { 0 = 90 }) (record { 0 = 100 })) (refusal kinds.BadContext 1) ∷ []
unfolding answers_to after reply_at last_place args_read read_each
restarted_answers = refl

restarted_calls : calls_of counter cold restarted ≡ 1
unfolding calls_of after reply_at last_place args_read read_each
restarted_calls = refl

-- All members leave, and one comes back, which has run nothing yet: it catches up before it runs the next request.
abbrev emptied : List Step
emptied =
    request 0 1 first_version ∷ reported 0 ∷ reported 1 ∷ request 0 2 first_version
    ∷ step_of (events.Manage (Add (host_no 1))) ∷ view_at_host 1 4 ∷ request 1 2 first_version ∷ request 1 2 (Some (version 4)) ∷ []

emptied_answers : answers_to counter cold emptied ≡
    gave 0 []
    ∷ Changed second (sent_to (0 ∷ 1 ∷ []) (inners.View (version 2)))
    ∷ Changed (record { version = version 3; members = []; primary = None }) (sent_to (1 ∷ []) (inners.View (version 3)))
    ∷ refused (decisions.Empty (version 3)) (refusal kinds.Transient 1)
    ∷ Changed (record { version = version 4; members = 1 ∷ []; primary = Some (host_no 1) }) (sent_to (1 ∷ []) (inners.View (version 4)))
    ∷ Known (version 4)
    ∷ refused (decisions.Older (version 1) (version 4)) (ForwardPerm (version 4))
    ∷ gave 1 (7 ∷ [])
    ∷ []
unfolding answers_to after reply_at last_place args_read read_each
emptied_answers = refl

emptied_calls : calls_of counter cold emptied ≡ 3
unfolding calls_of after reply_at last_place args_read read_each
emptied_calls = refl

-- A takeover behind a checkpoint runs the two entries since, and no other: six calls of four entries.
abbrev behind_checkpoint : List Step
behind_checkpoint =
    request 0 1 first_version ∷ step_of (events.Checkpoint (host_no 0) (record { 0 = 0 }))
    ∷ request 0 2 first_version ∷ request 0 3 first_version
    ∷ step_of (events.Crash (host_no 0)) ∷ reported 0 ∷ request 1 4 second_version ∷ []

behind_checkpoint_answers : answers_to counter cold behind_checkpoint ≡
    gave 0 [] ∷ Taken 0 1 [] ∷ gave 1 (7 ∷ []) ∷ gave 2 (7 ∷ 7 ∷ []) ∷ Down
    ∷ Changed second (sent_to (0 ∷ 1 ∷ []) (inners.View (version 2))) ∷ gave 3 (7 ∷ 7 ∷ 7 ∷ []) ∷ []
unfolding answers_to after reply_at last_place args_read read_each
behind_checkpoint_answers = refl

behind_checkpoint_calls : calls_of counter cold behind_checkpoint ≡ 6
unfolding calls_of after reply_at last_place args_read read_each
behind_checkpoint_calls = refl

-- ---- a warm group

abbrev warm : Group
warm = opening_group 1 Warm 0 [] (0 ∷ 1 ∷ [])

-- The first update is lost, so the second is ignored; a state brings the member on.
abbrev updates : List Step
updates =
    request 0 1 first_version ∷ step_of (events.SendUpdate (host_no 0)) ∷ request 0 2 first_version
    ∷ step_of (events.SendUpdate (host_no 0)) ∷ step_of (events.Update (host_no 1) 1 2 (7 ∷ 7 ∷ []))
    ∷ step_of (events.Checkpoint (host_no 0) (record { 0 = 0 })) ∷ step_of (events.State (host_no 1) 2 (7 ∷ 7 ∷ []))
    ∷ step_of (events.State (host_no 1) 2 (7 ∷ 7 ∷ [])) ∷ []

updates_answers : answers_to counter warm updates ≡
    gave 0 []
    ∷ Taken 0 1 (sent_to (1 ∷ []) (inners.Update 0 1 (7 ∷ [])))
    ∷ gave 1 (7 ∷ [])
    ∷ Taken 1 2 (sent_to (1 ∷ []) (inners.Update 1 2 (7 ∷ 7 ∷ [])))
    ∷ Ignored (causes.From 1 0)
    ∷ Taken 2 2 (sent_to (1 ∷ []) (inners.State 2 (7 ∷ 7 ∷ [])))
    ∷ Applied 2
    ∷ Ignored (causes.Position 2 2)
    ∷ []
unfolding answers_to after reply_at last_place args_read read_each
updates_answers = refl

-- ---- an active group

abbrev active : Group
active = opening_group 1 Active 0 [] (0 ∷ 1 ∷ 2 ∷ [])

abbrev request_of : ℕ → Request
request_of retention = record {
  key = Some (record { client = codes "ann"; retention = record { 0 = pos retention }; expiration = record { 0 = 1000 } });
  op = codes "next";
  args = [];
}

abbrev order : ℕ → ℕ → ℕ → Step
order host i retention = step_of (events.Order (host_no host) i (request_of retention))

-- Orders that come turned round and twice: none is applied past a gap, and each once.
abbrev orders_turned : List Step
orders_turned =
    request 0 1 first_version ∷ request 1 2 first_version ∷ order 2 1 2 ∷ order 2 1 2 ∷ order 2 0 1 ∷ order 2 0 1 ∷ []

orders_turned_answers : answers_to counter active orders_turned ≡
    Reply (decisions.Append 0) (Some (Done (Value []))) (sent_to (1 ∷ 2 ∷ []) (inners.Order 0 (request_of 1)))
    ∷ Reply (decisions.Append 1) (Some (Done (Value (7 ∷ [])))) (sent_to (0 ∷ 2 ∷ []) (inners.Order 1 (request_of 2)))
    ∷ Held 0 ∷ Held 0 ∷ Applied 2 ∷ Ignored (causes.Order 0 2) ∷ []
unfolding answers_to after reply_at last_place args_read read_each past_held
orders_turned_answers = refl

-- two calls at the first two hosts, one to catch up, and two of the orders
orders_turned_calls : calls_of counter active orders_turned ≡ 5
unfolding calls_of after reply_at last_place args_read read_each past_held
orders_turned_calls = refl

-- ---- a log that fails once

-- A request whose entry can't be written isn't accepted; sent again, it is accepted once.
abbrev failing : List Step
failing =
    record { event = events.Request (host_no 0) (record { 0 = 0 }) (asks 1 1000 first_version) Never; fails = true }
    ∷ request 0 1 first_version ∷ request 0 1 first_version ∷ []

failing_answers : answers_to counter cold failing ≡
    refused decisions.LogFault (fault kinds.PersistStore 1 Maybe) ∷ gave 0 [] ∷ refused (decisions.Repeat 0) (Done (Value [])) ∷ []
unfolding answers_to after reply_at last_place args_read read_each
failing_answers = refl
