-- What is said of a request that comes to a group of a world: each acceptance has one reply.
use Rattle.std.specs.Prelude.{◌≡◌, ℕ, List, ◌∷◌, slice_get, Option, Some, None}
use Rattle.ft_base.specs.declared.decisions.Decision.{Decision}
use Rattle.ft_base.specs.declared.decisions.Decision.TheVariants as decisions
use Rattle.ft_base.specs.declared.decisions.Stop.{Stop}
use Rattle.ft_base.specs.declared.numbers.HostNo.{HostNo}
use Rattle.ft_base.specs.declared.requests.Par.{Par}
use Rattle.ft_report.specs.declared.outcomes.ReportOutcome.{ReportOutcome}
use Rattle.ft_report.specs.declared.reports.ReportLine.{ReportLine}
use Rattle.ft_report.specs.declared.reports.ReportLine.TheVariants as reports
use Rattle.group_model.specs.declared.asking.Asked.{Asked}
use Rattle.group_model.specs.Replying.{IsDecidedAs}
use Rattle.script_groups.specs.Groups.{ScriptGroup, Placed, acted, common_of, machine_of, reply_of}
use Rattle.script_world.specs.World.{World}
use Rattle.world_turns.specs.Turns.{Turn, Goes, Refused}
use Rattle.ft_world.specs.Delivering.{deliver_line}
use Rattle.shown_ends.specs.Ends.{shown_outcome}
use Rattle.ft_world.specs.Requests.{ask, request_at}
use Rattle.ft_world.specs.declared.asking.Said.{Said}
use Rattle.ft_world.specs.declared.asking.Said.TheVariants as saids

-- ---- one reply

-- what a host says of a request is that its entry was appended or is repeated, with the entry's one reply; or it tells no
-- outcome
abbrev pub IsSaidOf : ScriptGroup → Asked → Said → Type 0
IsSaidOf g asked (saids.Reply r) = IsDecidedAs (machine_of g) (common_of g) asked r.decision (Some r.answer)
IsSaidOf g asked (saids.Stopped decision) = IsDecidedAs (machine_of g) (common_of g) asked decision None
IsSaidOf g asked saids.Down = Unit {0}

-- So it is of each request, whatever the world, and whether it was delivered or came over a link.
abbrev pub EntriesAreReplied : Type 0
EntriesAreReplied = (w : World) (p : Placed ScriptGroup) (host : HostNo) (asked : Asked) (stop : Stop) →
    IsSaidOf (acted p.value (request_at w host asked stop)) asked (ask w p host asked stop).said

-- this is printed of the reply of a place in the journal of the group with this name
pub record IsReplyOf (gs : List ScriptGroup) (name : List ℕ) (i : ℕ) (printed : ReportOutcome) : Type 0 where
  pub place : ℕ
  pub group : ScriptGroup
  pub at : slice_get gs place ≡ Some group
  pub named : group.name ≡ name
  pub gives : Option Par
  pub is : printed ≡ shown_outcome gives (reply_of group i)

-- behind a decision stands the reply, or its host stopped
abbrev pub TellsReply : List ScriptGroup → List ℕ → ℕ → List ReportLine → Type 0
TellsReply gs name i (reports.Reply number host client id outcome ∷ rest) = IsReplyOf gs name i outcome
TellsReply gs name i (reports.Down host ∷ rest) = Unit {0}
TellsReply gs name i other = ⊥

abbrev pub TellsDecided : List ScriptGroup → List ℕ → Decision → List ReportLine → Type 0
TellsDecided gs name (decisions.Append i) rest = TellsReply gs name i rest
TellsDecided gs name (decisions.Repeat i) rest = TellsReply gs name i rest
TellsDecided gs name other rest = Unit {0}

-- what holds where a report begins with a host's decision in a group: of these three, and of the lines behind it
abbrev pub IfDecided : (HostNo → List ℕ → Decision → List ReportLine → Type 0) → List ReportLine → Type 0
IfDecided P (reports.At host name decision ∷ rest) = P host name decision rest
IfDecided P other = Unit {0}

abbrev pub TurnTellsOnce : Turn → Type 0
TurnTellsOnce (Goes next report calls) = IfDecided (λ host name decision rest. TellsDecided next.groups name decision rest) report
TurnTellsOnce (Refused why calls) = Unit {0}

-- Where a delivery prints `append I` or `repeat I`, the reply below it is entry I's, unless the host stopped.
abbrev pub DeliveriesTellOnce : Type 0
DeliveriesTellOnce = (w : World) (k : ℕ) (stop : Stop) → TurnTellsOnce (deliver_line w k stop)
