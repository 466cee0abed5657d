-- Each acceptance has one reply: the plain group's law, of the groups of a world.
use Rattle.std.proofs.Common.{◌≡◌, ℕ, ◌+◌, List, [], ◌∷◌, length, Option, Some, None, refl, sym, ap, subst}
use Rattle.std.specs.Prelude.{slice_get}
use Rattle.ft_base.specs.declared.decisions.Decision.{Decision}
use Rattle.ft_base.specs.declared.decisions.Decision.TheVariants as decisions
use Rattle.ft_base.specs.declared.decisions.Stop.{Stop}
use Rattle.ft_base.specs.declared.numbers.HostNo.{HostNo}
use Rattle.ft_base.specs.declared.requests.Par.{Par}
use Rattle.ft_report.specs.declared.reports.ReportLine.{ReportLine}
use Rattle.ft_report.specs.declared.reports.ReportLine.TheVariants as reports
use Rattle.group_model.specs.declared.asking.Asked.{Asked}
use Rattle.group_model.specs.declared.events.Event.{Event}
use Rattle.group_model.specs.declared.events.GroupAnswer.{GroupAnswer}
use Rattle.group_model.specs.declared.events.GroupAnswer.TheVariants as group_answers
use Rattle.group_model.specs.Plain.{Group}
use Rattle.group_model.specs.Replying.{EntriesAreReplied as RepliesAreOfEntries, IsAnsweredAs, IsDecidedAs}
use Rattle.script_clients.specs.Clients.{Client}
use Rattle.script_groups.specs.Groups.{ScriptGroup, acted, common_of, group_of, is_failing, machine_of, turn}
use Rattle.script_groups.specs.Laws.{HistoriesGoOn}
use Rattle.script_groups.specs.Lists.{get_set}
use Rattle.script_world.specs.World.{World, host_clock, message_numbered}
use Rattle.script_world.specs.declared.messages.Message.{Message}
use Rattle.script_world.specs.declared.messages.Message.TheVariants as messages
use Rattle.sys_faults.specs.declared.answers.Answer.{Answer}
use Rattle.world_turns.specs.Sending.{sent_lines}
use Rattle.world_turns.specs.Naming.{Naming, NeverMade, Deleted, There, group_with_number}
use Rattle.ft_world.specs.Delivering.{answered, arrival_of, arrives, asker_of, delivered, requested}
use Rattle.ft_world.specs.Printed.{shown}
use Rattle.ft_world.specs.Replying.{DeliveriesTellOnce, EntriesAreReplied, IfDecided, IsSaidOf, TellsDecided, TurnTellsOnce}
use Rattle.ft_world.specs.Requests.{Asking, ask, gives_asked, request_at, said_by}
use Rattle.ft_world.specs.declared.asking.Said.{Said}
use Rattle.ft_world.specs.declared.asking.Said.TheVariants as saids
use Rattle.ft_world.specs.declared.deliveries.Arrival.{Arrival}
use Rattle.ft_world.proofs.DecidedLemmas.{away_none, brought_none, heard_none, ping_none, pong_none}
use Rattle.ft_world.proofs.PlaceLemmas.{IsOneNamed, with_number_one}

-- ---- what a host says

said_of : (g : ScriptGroup) (asked : Asked) (gives : Option Par) (a : GroupAnswer) → IsAnsweredAs (machine_of g) (common_of g) asked a → IsSaidOf g asked (said_by g gives a)
said_of g asked gives (group_answers.Reply decision (Some answer) out) is = is
said_of g asked gives (group_answers.Reply decision None out) is = is
said_of g asked gives other is = tt

pub entries_are_replied : RepliesAreOfEntries → HistoriesGoOn → EntriesAreReplied
entries_are_replied law histories w p host asked stop =
    let e = request_at w host asked stop in
    said_of (acted p.value e) asked (gives_asked p.value asked) (turn p.value e).answer
    (subst (λ (after : Group). IsAnsweredAs (machine_of p.value) after.common asked (turn p.value e).answer) (sym (histories p.value e))
    (law (machine_of p.value) (group_of p.value) (is_failing p.value) host (record { 0 = host_clock w host.0 }) asked stop))

-- ---- a request

-- what is printed of a decision, by the groups of the world after it
abbrev Telling : World → HostNo → List ℕ → Decision → List ReportLine → Type 0
Telling w host name decision rest = TellsDecided w.groups name decision rest

-- the reply of the entry of a group that stands at this place
replied_tells : (gs : List ScriptGroup) (place : ℕ) (g : ScriptGroup) (asked : Asked) (gives : Option Par) (decision : Decision) (answer : Answer)
    (number : ℕ) (host : HostNo) (client : List ℕ) (id : ℕ) (rest : List ReportLine) → slice_get gs place ≡ Some g →
    IsDecidedAs (machine_of g) (common_of g) asked decision (Some answer) →
    TellsDecided gs g.name decision (reports.Reply number host client id (shown g.name gives answer) ∷ rest)
replied_tells gs place g asked gives (decisions.Append i) answer number host client id rest at is =
    record { place = place; group = g; at = at; named = refl; gives = gives; is = ap (shown g.name gives) is.1 }
replied_tells gs place g asked gives (decisions.Repeat i) answer number host client id rest at is =
    record { place = place; group = g; at = at; named = refl; gives = gives; is = ap (shown g.name gives) is.1 }
replied_tells gs place g asked gives other answer number host client id rest at is = tt

stopped_tells : (gs : List ScriptGroup) (name : List ℕ) (decision : Decision) (host : HostNo) → TellsDecided gs name decision (reports.Down host ∷ [])
stopped_tells gs name (decisions.Append i) host = tt
stopped_tells gs name (decisions.Repeat i) host = tt
stopped_tells gs name other host = tt

answered_tells : (w : World) (k place : ℕ) (g : ScriptGroup) (asked : Asked) (r : Arrival) (before : ScriptGroup) (c : Client) (said : Said) → before.name ≡ g.name →
    slice_get w.groups place ≡ Some g → IsSaidOf g asked said →
    IfDecided (Telling (answered w k (asker_of r before c) said).world) (answered w k (asker_of r before c) said).lines
answered_tells w k place g asked r before c (saids.Reply reply) named at is =
    let rest : List ReportLine = sent_lines (length w.messages + 2) before.name r.host reply.out in
    subst (λ (name : List ℕ). TellsDecided w.groups name reply.decision (reports.Reply (length w.messages + 1) r.host c.name r.id (shown name reply.gives reply.answer) ∷ rest)) (sym named)
    (replied_tells w.groups place g asked reply.gives reply.decision reply.answer (length w.messages + 1) r.host c.name r.id rest at is)
answered_tells w k place g asked r before c (saids.Stopped decision) named at is = stopped_tells _ before.name decision r.host
answered_tells w k place g asked r before c saids.Down named at is = tt

module _ (once : EntriesAreReplied) where
  requested_tells : (w : World) (k : ℕ) (r : Arrival) (stop : Stop) (n : Naming) (o : Option Client) → IsOneNamed w.groups n →
      IfDecided (Telling (requested w k r stop n o).world) (requested w k r stop n o).lines
  requested_tells w k r stop NeverMade o is = tt
  requested_tells w k r stop (Deleted p) None is = tt
  requested_tells w k r stop (Deleted p) (Some c) is = away_none (Telling (requested w k r stop (Deleted p) (Some c)).world) w k (asker_of r p.value c)
  requested_tells w k r stop (There p) None is = tt
  requested_tells w k r stop (There p) (Some c) is =
      let e : Event = request_at w r.host r.asked stop in
      let a : Asking = ask w p r.host r.asked stop in
      answered_tells a.world k p.place (acted p.value e) r.asked r p.value c a.said refl (get_set w.groups p.place (acted p.value e) p.value is)
      (once w p r.host r.asked stop)

  arrives_tells : (w : World) (k : ℕ) (stop : Stop) (m : Message) → IfDecided (Telling (arrives w k stop m).world) (arrives w k stop m).lines
  arrives_tells w k stop (messages.Request client host a) =
      requested_tells w k (arrival_of client host a) stop (group_with_number w a.group.0) (slice_get w.clients client) (with_number_one w a.group.0)
  arrives_tells w k stop (messages.Reply r) = heard_none (Telling (arrives w k stop (messages.Reply r)).world) w k r (slice_get w.clients r.client)
  arrives_tells w k stop (messages.Carried group out) = brought_none (Telling (arrives w k stop (messages.Carried group out)).world) w k out (group_with_number w group.0)
  arrives_tells w k stop (messages.Ping group host) = ping_none (Telling (arrives w k stop (messages.Ping group host)).world) w k host (group_with_number w group.0)
  arrives_tells w k stop (messages.Pong group host) = pong_none (Telling (arrives w k stop (messages.Pong group host)).world) w k host (group_with_number w group.0)

  delivered_tells : (w : World) (k : ℕ) (stop : Stop) (o : Option Message) → TurnTellsOnce (delivered w k stop o)
  delivered_tells w k stop None = tt
  delivered_tells w k stop (Some m) = arrives_tells w k stop m

  pub deliveries_tell_once : DeliveriesTellOnce
  deliveries_tell_once w k stop = delivered_tells w k stop (message_numbered w k)
