-- Who appends, in the worlds of a script: a host that is up and knows the newest view, as a member, and in a passive group as
-- the primary.
use Rattle.std.specs.Prelude.{◌≡◌, ◌-◌, ℕ, List, length, slice_get, Option, Some}
use Rattle.std.specs.List.{AllByRecursion}
use Rattle.fault_script.specs.declared.lines.Line.{Line}
use Rattle.ft_base.specs.declared.decisions.Decision.{Decision}
use Rattle.ft_base.specs.declared.decisions.Decision.TheVariants as decisions
use Rattle.ft_base.specs.declared.decisions.Stop.{Stop}
use Rattle.ft_base.specs.declared.numbers.GroupId.{GroupId}
use Rattle.ft_base.specs.declared.numbers.HostNo.{HostNo}
use Rattle.group_model.specs.declared.asking.Asked.{Asked}
use Rattle.group_model.specs.declared.events.Event.{Event}
use Rattle.group_model.specs.declared.events.GroupAnswer.TheVariants as group_answers
use Rattle.group_model.specs.declared.events.Out.{Out}
use Rattle.group_model.specs.Appending.{MayAppend}
use Rattle.group_model.specs.Sending.{brought}
use Rattle.group_model.specs.Versions.{IsHad, KnowsItsViews}
use Rattle.script_groups.specs.Groups.{ScriptGroup, Placed, common_of, group_of, turn}
use Rattle.script_world.specs.declared.messages.Message.{Message}
use Rattle.script_world.specs.declared.messages.Message.TheVariants as messages
use Rattle.script_world.specs.World.{World, empty}
use Rattle.sys_faults.specs.declared.answers.Answer.{Answer}
use Rattle.world_turns.specs.Turns.{Turn, Goes, Refused}
use Rattle.ft_world.specs.Delivering.{deliver_line}
use Rattle.ft_world.specs.Laws.{world_after}
use Rattle.ft_world.specs.Replying.{IfDecided}
use Rattle.ft_world.specs.Requests.{request_at}

-- ---- views that are known

-- a group whose hosts know no view that it hasn't had
abbrev pub KnowsViews : ScriptGroup → Type 0
KnowsViews g = KnowsItsViews (group_of g)

-- the group with this number is there, and had every view of which this event tells
pub record HadViews (gs : List ScriptGroup) (group : GroupId) (e : Event) : Type 0 where
  pub is : ScriptGroup
  pub at : slice_get gs (group.0 - 1) ≡ Some is
  pub had : IsHad (common_of is) e

abbrev pub BringsHad : List ScriptGroup → Message → Type 0
BringsHad gs (messages.Carried group out) = HadViews gs group (brought out)
BringsHad gs other = Unit {0}

-- No host knows, and no message brings, a view that its group hasn't had.
pub record HasKnownViews (w : World) : Type 0 where
  pub groups : AllByRecursion KnowsViews w.groups
  pub messages : AllByRecursion (BringsHad w.groups) w.messages

abbrev pub ScriptsKnowTheirViews : Type 0
ScriptsKnowTheirViews = (script : List Line) → HasKnownViews (world_after empty script)

-- ---- who appends

-- a request that comes to a group of this world is appended at a host that may do so
abbrev pub AppendsAtLeaders : World → Type 0
AppendsAtLeaders w = (p : Placed ScriptGroup) (host : HostNo) (asked : Asked) (stop : Stop) (i : ℕ) (answer : Option Answer) (out : List Out) →
    slice_get w.groups p.place ≡ Some p.value → (turn p.value (request_at w host asked stop)).answer ≡ group_answers.Reply (decisions.Append i) answer out →
    MayAppend (group_of p.value) host.0 asked

-- In each world of a script, whether it was delivered or came over a link.
abbrev pub RequestsAppendAtLeaders : Type 0
RequestsAppendAtLeaders = (script : List Line) → AppendsAtLeaders (world_after empty script)

-- ---- what a delivery prints

-- a host may append what it was asked at this place, which is the journal's end, in the group with this name
pub record MayAppendIn (gs : List ScriptGroup) (name : List ℕ) (host : HostNo) (i : ℕ) : Type 0 where
  pub place : ℕ
  pub group : ScriptGroup
  pub at : slice_get gs place ≡ Some group
  pub named : group.name ≡ name
  pub asked : Asked
  pub may : MayAppend (group_of group) host.0 asked
  pub last : i ≡ length (common_of group).journal

abbrev pub DecidesAsLeader : List ScriptGroup → HostNo → List ℕ → Decision → Type 0
DecidesAsLeader gs host name (decisions.Append i) = MayAppendIn gs name host i
DecidesAsLeader gs host name other = Unit {0}

-- of the groups before it
abbrev pub TurnAppendsAtLeader : List ScriptGroup → Turn → Type 0
TurnAppendsAtLeader gs (Goes next report calls) = IfDecided (λ host name decision rest. DecidesAsLeader gs host name decision) report
TurnAppendsAtLeader gs (Refused why calls) = Unit {0}

-- Where a delivery prints `append I` in a world of a script, the host might append, and entry I was the next.
abbrev pub DeliveriesAppendAtLeaders : Type 0
DeliveriesAppendAtLeaders = (script : List Line) (k : ℕ) (stop : Stop) →
    let w = world_after empty script in TurnAppendsAtLeader w.groups (deliver_line w k stop)
