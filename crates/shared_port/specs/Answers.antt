-- What a host of a group behind a lock says on a link, by what it was told in a turn. (Chapter 23, "Object group
-- references"; GIOP chapter, "Reply Message".)
use Rattle.std.specs.Prelude.{◌≡◌, ℕ, ◌≤◌, ◌<◌, ◌==◌, ◌⊎◌, Bool, false, true, List, length, Option, Some, None, IfSome}
use Rattle.std.specs.List.{AllByRecursion}
use Rattle.ft_base.specs.declared.limits.TheConstants.{HOST_LIMIT}
use Rattle.ft_base.specs.declared.numbers.GroupId.{GroupId}
use Rattle.ft_base.specs.declared.requests.Par.{Par}
use Rattle.ft_base.specs.declared.views.TheConstants.{MEMBER_LIMIT}
use Rattle.ft_base.specs.declared.views.View.{View}
use Rattle.iogr_reference.specs.Choices.{group_of_key}
use Rattle.iogr_reference.specs.Views.{reference_of}
use Rattle.group_model.specs.declared.events.GroupAnswer.{GroupAnswer}
use Rattle.group_model.specs.declared.events.GroupAnswer.TheVariants as group_answers
use Rattle.host_server.specs.Replies.{CanGive}
use Rattle.host_server.specs.declared.answers.PortAnswer.{PortAnswer}
use Rattle.host_server.specs.declared.answers.PortAnswer.TheVariants as port_answers
use Rattle.sys_faults.specs.Bodies.{OnUnknown}
use Rattle.sys_faults.specs.declared.answers.Answer.{Answer}
use Rattle.sys_faults.specs.declared.answers.Answer.TheVariants as answers
use Rattle.shared_group.specs.Turns.{SharedValue}
use Rattle.shared_group.specs.declared.calls.AskAnswer.{AskAnswer}

-- ---- the group that an object key names

abbrev pub is_group : GroupId → Option GroupId → Bool
is_group group None = false
is_group group (Some named) = named.0 == group.0

abbrev pub names_group : SharedValue → List ℕ → Bool
names_group group key = is_group group.group (group_of_key key)

-- ---- what is said

-- where the view can be reached; there is no reference of a view that there isn't
abbrev pub forward_to : SharedValue → Bool → Option View → PortAnswer
forward_to group perm None = port_answers.NoGroup
forward_to group perm (Some view) = port_answers.Forward perm (reference_of group.group group.type_id view group.ports)

-- of an answer, with what the operation gives and the view to which it forwards
abbrev pub said : SharedValue → Option Par → Option View → Answer → PortAnswer
said group gives view (answers.Done outcome) = port_answers.Done outcome gives
said group gives view (answers.System fault) = port_answers.System fault
said group gives view (answers.Forward version) = forward_to group false view
said group gives view (answers.ForwardPerm version) = forward_to group true view

-- a request has a reply, or its host is down, or memory was wanted
abbrev pub said_of : SharedValue → Option Par → Option View → GroupAnswer → PortAnswer
said_of group gives view (group_answers.Reply decision (Some answer) out) = said group gives view answer
said_of group gives view group_answers.Down = port_answers.Down
said_of group gives view group_answers.NoMemory = port_answers.NoMemory
said_of group gives view other = port_answers.NoGroup

abbrev pub port_answer : SharedValue → AskAnswer → PortAnswer
port_answer group ask = said_of group ask.gives ask.view ask.queued.answer

-- or there was no memory for the reference to which it forwards
abbrev pub Says : PortAnswer → PortAnswer → Type 0
Says answer result = (result ≡ answer) ⊎ (result ≡ port_answers.NoMemory)

-- ---- what can be said

-- a view of hosts that there can be, as many as a view can have
pub record IsShortView (view : View) : Type 0 where
  pub hosts : AllByRecursion (λ host. host < HOST_LIMIT) view.members
  pub few : length view.members ≤ MEMBER_LIMIT

-- an outcome in the form that the operation gives, a named exception, or such a view
abbrev pub IsInForm : Option Par → Option View → Answer → Type 0
IsInForm gives view (answers.Done outcome) = CanGive gives outcome
IsInForm gives view (answers.System fault) = OnUnknown fault.kind (λ id. ⊥)
IsInForm gives view (answers.Forward version) = IfSome view IsShortView
IsInForm gives view (answers.ForwardPerm version) = IfSome view IsShortView

abbrev pub AreInForm : Option Par → Option View → GroupAnswer → Type 0
AreInForm gives view (group_answers.Reply decision (Some answer) out) = IsInForm gives view answer
AreInForm gives view other = Unit {0}
