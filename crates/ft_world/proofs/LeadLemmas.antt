-- Who appends in the worlds of a script: the plain group's law, of groups whose hosts know no view that their group hasn't had.
use Rattle.std.proofs.Common.{◌≡◌, ℕ, List, length, Option, Some, None, refl, subst}
use Rattle.std.specs.Prelude.{slice_get}
use Rattle.ft_base.specs.declared.decisions.Decision.{Decision}
use Rattle.ft_base.specs.declared.decisions.Decision.TheVariants as decisions
use Rattle.ft_base.specs.declared.decisions.Stop.{Stop}
use Rattle.ft_base.specs.declared.numbers.HostNo.{HostNo}
use Rattle.ft_base.specs.declared.requests.Par.{Par}
use Rattle.ft_report.specs.declared.reports.ReportLine.{ReportLine}
use Rattle.group_model.specs.declared.asking.Asked.{Asked}
use Rattle.group_model.specs.declared.events.Event.{Event}
use Rattle.group_model.specs.declared.events.GroupAnswer.{GroupAnswer}
use Rattle.group_model.specs.declared.events.GroupAnswer.TheVariants as group_answers
use Rattle.group_model.specs.declared.events.Out.{Out}
use Rattle.group_model.specs.Appending.{OnlyLeadersAppend as LeadersAppend}
use Rattle.script_clients.specs.Clients.{Client}
use Rattle.script_groups.specs.Groups.{ScriptGroup, Placed, acted, common_of, group_of, is_failing, machine_of, turn}
use Rattle.script_world.specs.World.{World, host_clock, message_numbered}
use Rattle.script_world.specs.declared.messages.Message.{Message}
use Rattle.script_world.specs.declared.messages.Message.TheVariants as messages
use Rattle.sys_faults.specs.declared.answers.Answer.{Answer}
use Rattle.world_turns.specs.Naming.{Naming, NeverMade, Deleted, There, group_with_number}
use Rattle.ft_world.specs.Delivering.{answered, arrival_of, arrives, asker_of, delivered, requested}
use Rattle.ft_world.specs.Requests.{ask, gives_asked, request_at, said_by}
use Rattle.ft_world.specs.declared.deliveries.Arrival.{Arrival}
use Rattle.ft_world.proofs.PlaceLemmas.{IsOneNamed, with_number_one}
use Rattle.script_groups.specs.Lists.{all_get}
use Rattle.script_world.specs.World.{empty}
use Rattle.ft_world.specs.Laws.{world_after}
use Rattle.ft_world.specs.Leading.{AppendsAtLeaders, DecidesAsLeader, DeliveriesAppendAtLeaders, HasKnownViews, KnowsViews, RequestsAppendAtLeaders, ScriptsKnowTheirViews, TurnAppendsAtLeader}
use Rattle.ft_world.specs.Replying.{IfDecided}
use Rattle.ft_world.proofs.AppendLemmas.{AnswersLast, appended_last}
use Rattle.ft_world.proofs.DecidedLemmas.{away_none, brought_none, heard_none, ping_none, pong_none}

-- whatever the world, as long as its views are known so: also in the midst of a link
pub appends_at_leaders : LeadersAppend → (w : World) → HasKnownViews w → AppendsAtLeaders w
appends_at_leaders law w known p host asked stop i answer out at is =
    law (machine_of p.value) (group_of p.value) (is_failing p.value) host (record { 0 = host_clock w host.0 }) asked stop i answer out
    (all_get KnowsViews w.groups p.place p.value known.groups at) is

-- its entry is the next of the journal
pub appended_next : (w : World) (p : Placed ScriptGroup) (host : HostNo) (asked : Asked) (stop : Stop) (i : ℕ) (answer : Option Answer) (out : List Out) →
    (turn p.value (request_at w host asked stop)).answer ≡ group_answers.Reply (decisions.Append i) answer out → i ≡ length (common_of p.value).journal
appended_next w p host asked stop i answer out is =
    subst (AnswersLast (length (common_of p.value).journal)) is
    (appended_last (machine_of p.value) (group_of p.value) host (record { 0 = host_clock w host.0 }) asked stop (is_failing p.value))

-- ---- a delivery

-- what is printed of a decision, by the groups of the world before it
abbrev Led : World → HostNo → List ℕ → Decision → List ReportLine → Type 0
Led w host name decision rest = DecidesAsLeader w.groups host name decision

module _ (w : World) (leaders : AppendsAtLeaders w) where
  -- by what the group answers
  decided_leads : (p : Placed ScriptGroup) (host : HostNo) (asked : Asked) (stop : Stop) (decision : Decision) (answer : Option Answer) (out : List Out) →
      slice_get w.groups p.place ≡ Some p.value → (turn p.value (request_at w host asked stop)).answer ≡ group_answers.Reply decision answer out →
      DecidesAsLeader w.groups host p.value.name decision
  decided_leads p host asked stop (decisions.Append i) answer out at is = record {
    place = p.place;
    group = p.value;
    at = at;
    named = refl;
    asked = asked;
    may = leaders p host asked stop i answer out at is;
    last = appended_next w p host asked stop i answer out is;
  }
  decided_leads p host asked stop other answer out at is = tt

  answer_leads : (v : World) (k : ℕ) (p : Placed ScriptGroup) (r : Arrival) (stop : Stop) (c : Client) (g : ScriptGroup) (gives : Option Par) (answer : GroupAnswer) →
      slice_get w.groups p.place ≡ Some p.value → (turn p.value (request_at w r.host r.asked stop)).answer ≡ answer →
      IfDecided (Led w) (answered v k (asker_of r p.value c) (said_by g gives answer)).lines
  answer_leads v k p r stop c g gives (group_answers.Reply decision (Some answer) out) at is = decided_leads p r.host r.asked stop decision (Some answer) out at is
  answer_leads v k p r stop c g gives (group_answers.Reply decision None out) at is = decided_leads p r.host r.asked stop decision None out at is
  answer_leads v k p r stop c g gives other at is = tt

  requested_leads : (k : ℕ) (r : Arrival) (stop : Stop) (n : Naming) (o : Option Client) → IsOneNamed w.groups n → IfDecided (Led w) (requested w k r stop n o).lines
  requested_leads k r stop NeverMade o is = tt
  requested_leads k r stop (Deleted p) None is = tt
  requested_leads k r stop (Deleted p) (Some c) is = away_none (Led w) w k (asker_of r p.value c)
  requested_leads k r stop (There p) None is = tt
  requested_leads k r stop (There p) (Some c) is =
      let e : Event = request_at w r.host r.asked stop in
      answer_leads (ask w p r.host r.asked stop).world k p r stop c (acted p.value e) (gives_asked p.value r.asked) (turn p.value e).answer is refl

  arrives_leads : (k : ℕ) (stop : Stop) (m : Message) → IfDecided (Led w) (arrives w k stop m).lines
  arrives_leads k stop (messages.Request client host a) =
      requested_leads k (arrival_of client host a) stop (group_with_number w a.group.0) (slice_get w.clients client) (with_number_one w a.group.0)
  arrives_leads k stop (messages.Reply r) = heard_none (Led w) w k r (slice_get w.clients r.client)
  arrives_leads k stop (messages.Carried group out) = brought_none (Led w) w k out (group_with_number w group.0)
  arrives_leads k stop (messages.Ping group host) = ping_none (Led w) w k host (group_with_number w group.0)
  arrives_leads k stop (messages.Pong group host) = pong_none (Led w) w k host (group_with_number w group.0)

  delivered_leads : (k : ℕ) (stop : Stop) (o : Option Message) → TurnAppendsAtLeader w.groups (delivered w k stop o)
  delivered_leads k stop None = tt
  delivered_leads k stop (Some m) = arrives_leads k stop m

-- ---- in the worlds of a script

module _ (law : LeadersAppend) (known : ScriptsKnowTheirViews) where
  pub requests_append_at_leaders : RequestsAppendAtLeaders
  requests_append_at_leaders script = appends_at_leaders law (world_after empty script) (known script)

  pub deliveries_append_at_leaders : DeliveriesAppendAtLeaders
  deliveries_append_at_leaders script k stop =
      let w : World = world_after empty script in delivered_leads w (requests_append_at_leaders script) k stop (message_numbered w k)
