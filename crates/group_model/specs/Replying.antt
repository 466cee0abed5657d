-- Which outcome a request is replied: that of its own entry, or of the one that it repeats. (Chapter 23, "FTRequestServiceContext".)
use Rattle.std.specs.Prelude.{◌≡◌, ℕ, Bool, List, slice_get, Option, Some, None}
use Rattle.ft_base.specs.Machine.{Machine}
use Rattle.ft_base.specs.Journal.{Entry}
use Rattle.ft_base.specs.declared.decisions.Decision.{Decision}
use Rattle.ft_base.specs.declared.decisions.Decision.TheVariants as decisions
use Rattle.ft_base.specs.declared.decisions.Stop.{Stop}
use Rattle.ft_base.specs.declared.numbers.HostNo.{HostNo}
use Rattle.ft_base.specs.declared.numbers.Tick.{Tick}
use Rattle.sys_faults.specs.declared.answers.Answer.{Answer}
use Rattle.sys_faults.specs.declared.answers.Answer.TheVariants.{Done}
use Rattle.group_model.specs.declared.asking.Asked.{Asked}
use Rattle.group_model.specs.declared.events.Event.TheVariants as events
use Rattle.group_model.specs.declared.events.GroupAnswer.{GroupAnswer}
use Rattle.group_model.specs.declared.events.GroupAnswer.TheVariants as answers
use Rattle.group_model.specs.Plain.{Common, Group}
use Rattle.group_model.specs.Serving.{repeated}
use Rattle.group_model.specs.Events.{turn_of, after_event}

-- the entry at this place is of the logical invocation and the operation that are asked
pub record IsEntryOf (journal : List Entry) (asked : Asked) (i : ℕ) : Type 0 where
  pub entry : Entry
  pub at : slice_get journal i ≡ Some entry
  pub key : entry.request.key ≡ asked.key
  pub op : Some entry.request.op ≡ asked.op

-- no outcome is told
abbrev pub IsNoOutcome : Option Answer → Type 0
IsNoOutcome (Some (Done outcome)) = ⊥
IsNoOutcome other = Unit {0}

-- the answer is the entry's one reply, or there is none
abbrev pub IsReplyOf : Machine → Common → ℕ → Option Answer → Type 0
IsReplyOf m c i None = Unit {0}
IsReplyOf m c i (Some answer) = answer ≡ repeated m c i

abbrev pub IsDecidedAs : Machine → Common → Asked → Decision → Option Answer → Type 0
IsDecidedAs m c asked (decisions.Append i) answer = IsEntryOf c.journal asked i × IsReplyOf m c i answer
IsDecidedAs m c asked (decisions.Repeat i) answer = IsEntryOf c.journal asked i × IsReplyOf m c i answer
IsDecidedAs m c asked other answer = IsNoOutcome answer

abbrev pub IsAnsweredAs : Machine → Common → Asked → GroupAnswer → Type 0
IsAnsweredAs m c asked (answers.Reply decision answer out) = IsDecidedAs m c asked decision answer
IsAnsweredAs m c asked other = Unit {0}

-- A request that was appended, or that repeats an entry, is told that entry's one reply, where it is answered; and no other is
-- told an outcome.
abbrev pub EntriesAreReplied : Type 0
EntriesAreReplied = (m : Machine) (g : Group) (fails : Bool) (host : HostNo) (clock : Tick) (asked : Asked) (stop : Stop) →
    IsAnsweredAs m (after_event m g (events.Request host clock asked stop) fails).common asked
    (turn_of m g (events.Request host clock asked stop) fails).answer
