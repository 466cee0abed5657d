-- What a request is answered, and what a host that stops leaves of itself.
use Rattle.std.specs.Prelude.{◌≡◌, ℕ, Bool, true, false, List, [], Option, Some, None}
use Rattle.ft_base.specs.Machine.{Machine, IsGivenAs}
use Rattle.ft_base.specs.Laws.{Stays, Gives}
use Rattle.ft_base.specs.declared.decisions.Decision.{Decision}
use Rattle.ft_base.specs.declared.decisions.Stop.{Stop}
use Rattle.ft_base.specs.declared.numbers.HostNo.{HostNo}
use Rattle.ft_base.specs.declared.numbers.Tick.{Tick}
use Rattle.sys_faults.specs.Bodies.{OnUnknown}
use Rattle.sys_faults.specs.declared.answers.Answer.{Answer}
use Rattle.sys_faults.specs.declared.answers.Answer.TheVariants.{Done, System, Forward, ForwardPerm}
use Rattle.group_model.specs.declared.asking.Asked.{Asked}
use Rattle.group_model.specs.declared.events.Event.TheVariants as events
use Rattle.group_model.specs.declared.events.GroupAnswer.{GroupAnswer}
use Rattle.group_model.specs.declared.events.GroupAnswer.TheVariants as answers
use Rattle.group_model.specs.declared.events.Out.{Out}
use Rattle.group_model.specs.Plain.{Common, Host, Group, blank}
use Rattle.group_model.specs.Asking.{signature_asked}
use Rattle.group_model.specs.Views.{StillHas}
use Rattle.group_model.specs.Events.{turn_of, after_event}
use Rattle.group_model.specs.Agreeing.{Agrees, IsSound}

-- an outcome in the form that the operation gives, a named exception, or the version of a view that the group still has
abbrev pub IsAnswered : Machine → Common → Option (List ℕ) → Answer → Type 0
IsAnswered m c op (Done outcome) = IsGivenAs (signature_asked m op) outcome
IsAnswered m c op (System fault) = OnUnknown fault.kind (λ id. ⊥)
IsAnswered m c op (Forward version) = StillHas c version.0
IsAnswered m c op (ForwardPerm version) = StillHas c version.0

-- A request of a sound group is answered so; a repeat too, as the operation that is asked for.
abbrev pub AnswersAreGiven : Type 0
AnswersAreGiven = (m : Machine) (g : Group) (fails : Bool) (host : HostNo) (clock : Tick) (asked : Asked) (stop : Stop)
    (decision : Decision) (answer : Answer) (out : List Out) → Stays m → Gives m → IsSound m g →
    Agrees m (events.Request host clock asked stop) g →
    (turn_of m g (events.Request host clock asked stop) fails).answer ≡ answers.Reply decision (Some answer) out →
    IsAnswered m (after_event m g (events.Request host clock asked stop) fails).common asked.op answer

-- a reply, of a host that is up, or none of one that is down
abbrev pub IsReplied : Bool → GroupAnswer → Type 0
IsReplied up (answers.Reply decision answer out) = up ≡ true
IsReplied up (answers.Known version) = ⊥
IsReplied up (answers.Applied n) = ⊥
IsReplied up (answers.Held n) = ⊥
IsReplied up (answers.Ignored cause) = ⊥
IsReplied up (answers.Taken from position out) = ⊥
IsReplied up (answers.Changed view out) = ⊥
IsReplied up (answers.Refused fault) = ⊥
IsReplied up answers.LogFault = ⊥
IsReplied up answers.Down = up ≡ false
IsReplied up answers.Up = ⊥
IsReplied up answers.NoMemory = ⊥

-- A request has a reply exactly where its host is up; else the host is down.
abbrev pub RequestsAreReplied : Type 0
RequestsAreReplied = (m : Machine) (g : Group) (fails : Bool) (host : HostNo) (clock : Tick) (asked : Asked) (stop : Stop) →
    IsReplied (g.hosts host.0).up (turn_of m g (events.Request host clock asked stop) fails).answer

-- where a reply has no answer, nothing was sent, and the host is down and knows nothing; where it has one, the host
-- is up
abbrev pub IsToldBy : Host → GroupAnswer → Type 0
IsToldBy h (answers.Reply decision None out) = (out ≡ []) × (h ≡ blank false)
IsToldBy h (answers.Reply decision (Some answer) out) = h.up ≡ true
IsToldBy h (answers.Known version) = Unit {0}
IsToldBy h (answers.Applied n) = Unit {0}
IsToldBy h (answers.Held n) = Unit {0}
IsToldBy h (answers.Ignored cause) = Unit {0}
IsToldBy h (answers.Taken from position out) = Unit {0}
IsToldBy h (answers.Changed view out) = Unit {0}
IsToldBy h (answers.Refused fault) = Unit {0}
IsToldBy h answers.LogFault = Unit {0}
IsToldBy h answers.Down = Unit {0}
IsToldBy h answers.Up = Unit {0}
IsToldBy h answers.NoMemory = Unit {0}

-- So whether a host stopped in the middle of a request is told by the answer alone.
abbrev pub StopsAreTold : Type 0
StopsAreTold = (m : Machine) (g : Group) (fails : Bool) (host : HostNo) (clock : Tick) (asked : Asked) (stop : Stop) →
    IsToldBy ((after_event m g (events.Request host clock asked stop) fails).hosts host.0)
    (turn_of m g (events.Request host clock asked stop) fails).answer
