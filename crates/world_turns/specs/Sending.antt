-- What a group sends, as messages, as bytes and as lines.
use Rattle.std.specs.Prelude.{ℕ, ◌+◌, suc, List, [], ◌∷◌, length, map, Option, Some, None}
use Rattle.ft_base.specs.declared.numbers.GroupId.{GroupId}
use Rattle.ft_base.specs.declared.numbers.HostNo.{HostNo}
use Rattle.ft_base.specs.declared.requests.Key.{Key}
use Rattle.ft_base.specs.declared.requests.Request.{Request}
use Rattle.ft_base.specs.declared.views.View.{View}
use Rattle.ft_report.specs.declared.reports.ReportLine.{ReportLine}
use Rattle.ft_report.specs.declared.reports.ReportLine.TheVariants as reports
use Rattle.group_model.specs.declared.events.Inner.{Inner}
use Rattle.group_model.specs.declared.events.Inner.TheVariants as inners
use Rattle.group_model.specs.declared.events.Out.{Out}
use Rattle.script_world.specs.declared.messages.Message.{Message}
use Rattle.script_world.specs.World.{World, carried, counted, with_messages}

-- a view of the group with this name, as it is printed
abbrev pub view_line : List ℕ → View → ReportLine
view_line name view = reports.View name view.version view.members view.primary

abbrev pub all_carried : GroupId → List Out → List Message
all_carried group outs = map (carried group) outs

-- ---- bytes

-- the id of the client that a request names, if it names one
abbrev pub client_id : Option Key → List ℕ
client_id None = []
client_id (Some key) = key.client

abbrev pub request_payload : Request → ℕ
request_payload request = length (client_id request.key) + length request.op + length request.args

-- what counts of a message between members: a state's and an update's bytes, and an order's client, operation and
-- arguments
abbrev pub payload : Inner → ℕ
payload (inners.View version) = 0
payload (inners.State position state) = length state
payload (inners.Update base position update) = length update
payload (inners.Order index request) = request_payload request

abbrev pub payloads : List Out → ℕ
payloads [] = 0
payloads (out ∷ outs) = payload out.carried + payloads outs

-- all that a group sends is on its way, and its bytes are counted
abbrev pub all_sent : World → GroupId → List Out → World
all_sent w group outs = counted (with_messages w (all_carried group outs)) (payloads outs)

-- ---- lines

-- a message with this number from a host of the group with this name; a view is from the manager
abbrev pub sent_line : ℕ → List ℕ → HostNo → HostNo → Inner → ReportLine
sent_line number name from to (inners.View version) = reports.ViewMessage number to name version
sent_line number name from to (inners.State position state) = reports.StateMessage number from to name position
sent_line number name from to (inners.Update base position update) = reports.UpdateMessage number from to name base position
sent_line number name from to (inners.Order index request) = reports.OrderMessage number from to name index

unfoldable pub sent_lines : ℕ → List ℕ → HostNo → List Out → List ReportLine
sent_lines number name from [] = []
sent_lines number name from (out ∷ outs) = sent_line number name from out.to out.carried ∷ sent_lines (suc number) name from outs
