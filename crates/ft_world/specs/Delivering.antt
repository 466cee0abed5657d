-- `deliver K`: a message comes to its host or to its client.
use Rattle.std.specs.Prelude.{ℕ, ◌+◌, if◌then◌else◌, List, [], ◌∷◌, length, slice_get, Option, Some, None}
use Rattle.ft_base.specs.declared.decisions.Stop.{Stop}
use Rattle.ft_base.specs.declared.numbers.GroupId.{GroupId}
use Rattle.ft_base.specs.declared.numbers.HostNo.{HostNo}
use Rattle.ft_base.specs.declared.requests.Par.{Par}
use Rattle.cdr_codec.specs.declared.orders.Order.TheVariants.{Big}
use Rattle.client_retry.specs.declared.answers.Heard.{Heard}
use Rattle.client_retry.specs.declared.answers.Heard.TheVariants as heards
use Rattle.fault_script.specs.declared.lines.LineFault.TheVariants.{Unknown}
use Rattle.ft_report.specs.declared.reports.ReportLine.{ReportLine}
use Rattle.ft_report.specs.declared.reports.ReportLine.TheVariants as reports
use Rattle.group_model.specs.declared.asking.Asked.{Asked}
use Rattle.group_model.specs.declared.events.GroupAnswer.{GroupAnswer}
use Rattle.group_model.specs.declared.events.GroupAnswer.TheVariants as group_answers
use Rattle.group_model.specs.declared.events.Inner.{Inner}
use Rattle.group_model.specs.declared.events.Inner.TheVariants as inners
use Rattle.group_model.specs.declared.events.Out.{Out}
use Rattle.group_model.specs.Sending.{brought}
use Rattle.iogr_reference.specs.declared.references.GroupRef.{GroupRef}
use Rattle.iogr_reference.specs.declared.references.Ior.{Ior}
use Rattle.sys_faults.specs.declared.answers.Answer.{Answer}
use Rattle.sys_faults.specs.declared.answers.Answer.TheVariants as answers
use Rattle.script_clients.specs.declared.answers.Attempt.{Attempt}
use Rattle.script_clients.specs.Clients.{Client, hearing}
use Rattle.script_groups.specs.Groups.{ScriptGroup, Placed, group_numbered, turn}
use Rattle.script_groups.specs.References.{reference_at}
use Rattle.ft_world.specs.declared.deliveries.Asker.{Asker}
use Rattle.ft_world.specs.declared.deliveries.Arrival.{Arrival}
use Rattle.script_world.specs.declared.messages.Message.{Message}
use Rattle.script_world.specs.declared.messages.Message.TheVariants as messages
use Rattle.script_world.specs.declared.messages.Reply.{Reply}
use Rattle.ft_world.specs.Clients.{does}
use Rattle.world_management.specs.Hosts.{stopped}
use Rattle.ft_world.specs.Requests.{ask, port_answer}
use Rattle.ft_world.specs.declared.asking.Said.{Said}
use Rattle.ft_world.specs.declared.asking.Said.TheVariants as saids
use Rattle.ft_world.specs.Printed.{shown}
use Rattle.message_sizes.specs.Sizes.{answer_size}
use Rattle.world_turns.specs.Sending.{all_sent, sent_lines}
use Rattle.script_world.specs.World.{World, counted, is_up, message_numbered, with_client, with_event, with_messages}
use Rattle.host_server.specs.Replies.{no_group}
use Rattle.world_monitors.specs.Arriving.{ping_comes, pong_comes}
use Rattle.world_turns.specs.Naming.{Naming, NeverMade, Deleted, There, group_with_number, late_line}
use Rattle.world_turns.specs.Turns.{Effect, Turn, Refused, costing, goes, says}

-- ---- a request comes to its host

-- what it asks: its arguments are in canonical form, which is one of the two byte orders
abbrev pub asked_by : Attempt → Asked
asked_by a = record {
  version = a.version;
  key = a.request.key;
  bad_context = None;
  op = Some a.request.op;
  body = record { order = Big; align = 0; bytes = a.request.args };
}

-- as it arrives, from this client at this host
abbrev pub arrival_of : ℕ → HostNo → Attempt → Arrival
arrival_of client host a = record { client = client; host = host; group = a.group; id = a.id; asked = asked_by a }

abbrev pub asker_of : Arrival → ScriptGroup → Client → Asker
asker_of r g c = record {
  client = r.client;
  client_name = c.name;
  host = r.host;
  id = r.id;
  group = g.id;
  group_name = g.name;
}

-- of an operation that gives this
abbrev pub reply_to : Asker → Option Par → Answer → Reply
reply_to a gives answer =
    record { client = a.client; group = a.group; host = a.host; id = a.id; answer = answer; gives = gives }

-- a reply is sent; its bytes are those that it would have on a link
abbrev pub replied : World → Asker → Option Par → Option Ior → Answer → World
replied w a gives redirect answer =
    counted (with_messages w (messages.Reply (reply_to a gives answer) ∷ [])) (answer_size (port_answer gives redirect answer))

-- by what the host says: it replies and then sends its orders, or it stopped, or it is down
abbrev pub answered : World → ℕ → Asker → Said → Effect
answered w k a (saids.Reply r) =
    says (all_sent (replied w a r.gives r.redirect r.answer) a.group r.out)
    (reports.At a.host a.group_name r.decision
    ∷ reports.Reply (length w.messages + 1) a.host a.client_name a.id (shown a.group_name r.gives r.answer)
    ∷ sent_lines (length w.messages + 2) a.group_name a.host r.out)
answered w k a (saids.Stopped decision) =
    says (stopped w a.host) (reports.At a.host a.group_name decision ∷ reports.Down a.host ∷ [])
answered w k a saids.Down = says w (reports.Lost k ∷ [])

-- a request for a group that was deleted: a host that is up has no such object
abbrev pub turned_away : World → ℕ → Asker → Effect
turned_away w k a =
    if is_up w a.host.0 then
    says (replied w a None None (answers.System no_group))
    (reports.NoGroup a.host ∷ reports.Reply (length w.messages + 1) a.host a.client_name a.id (shown a.group_name None (answers.System no_group)) ∷ [])
    else says w (reports.Lost k ∷ [])

-- to a group, from a client
abbrev pub requested : World → ℕ → Arrival → Stop → Naming → Option Client → Effect
requested w k r stop NeverMade c = says w []
requested w k r stop (Deleted g) None = says w []
requested w k r stop (Deleted g) (Some c) = turned_away w k (asker_of r g.value c)
requested w k r stop (There g) None = says w []
requested w k r stop (There g) (Some c) =
    let a = ask w g r.host r.asked stop in costing a.calls (answered a.world k (asker_of r g.value c) a.said)

-- ---- a reply comes to its client

-- a redirect to a view that there isn't can't be read
abbrev pub redirected : Option GroupRef → Heard
redirected None = heards.Unreadable
redirected (Some reference) = heards.Forward reference

abbrev pub redirected_to : Option (Placed ScriptGroup) → ℕ → Heard
redirected_to None version = heards.Unreadable
redirected_to (Some g) version = redirected (reference_at g.value version)

abbrev pub heard_of : World → GroupId → Answer → Heard
heard_of w group (answers.Done outcome) = heards.Outcome outcome
heard_of w group (answers.System fault) = heards.System fault
heard_of w group (answers.Forward version) = redirected_to (group_numbered w.groups group.0) version.0
heard_of w group (answers.ForwardPerm version) = redirected_to (group_numbered w.groups group.0) version.0

abbrev pub heard_by : World → ℕ → Reply → Option Client → Effect
heard_by w k r None = says w []
heard_by w k r (Some c) =
    let t = hearing c r.id (heard_of w r.group r.answer) (record { 0 = w.clock }) in
    does (with_client w r.client t.client) r.client c.name r.gives (reports.UnheardReply k ∷ []) t.told

-- ---- what one host sent comes to another

-- the number of an order
abbrev pub index_of : Inner → Option ℕ
index_of (inners.View version) = None
index_of (inners.State position state) = None
index_of (inners.Update base position update) = None
index_of (inners.Order index request) = Some index

abbrev pub held : ℕ → Option ℕ → ℕ → List ReportLine
held k None position = []
held k (Some index) position = reports.Held k index position ∷ []

-- by the host to which it came, and its number as an order
abbrev pub came : ℕ → List ℕ → HostNo → Option ℕ → GroupAnswer → List ReportLine
came k name to index (group_answers.Known version) = reports.Known to name version ∷ []
came k name to index (group_answers.Applied position) = reports.Applied k position ∷ []
came k name to index (group_answers.Held position) = held k index position
came k name to index (group_answers.Ignored why) = reports.Ignored k why ∷ []
came k name to index group_answers.Down = reports.Lost k ∷ []
came k name to index other = []

abbrev pub brought_to : World → ℕ → Out → Naming → Effect
brought_to w k out NeverMade = says w []
brought_to w k out (Deleted g) = says w (late_line w k out.to ∷ [])
brought_to w k out (There g) =
    let t = turn g.value (brought out) in
    costing t.calls (says (with_event w g.place g.value (brought out)) (came k g.value.name out.to (index_of out.carried) t.answer))

-- ---- the line

abbrev pub arrives : World → ℕ → Stop → Message → Effect
arrives w k stop (messages.Request client host a) =
    requested w k (arrival_of client host a) stop (group_with_number w a.group.0) (slice_get w.clients client)
arrives w k stop (messages.Reply r) = heard_by w k r (slice_get w.clients r.client)
arrives w k stop (messages.Carried group out) = brought_to w k out (group_with_number w group.0)
arrives w k stop (messages.Ping group host) = ping_comes w k group host
arrives w k stop (messages.Pong group host) = pong_comes w k group host

abbrev pub delivered : World → ℕ → Stop → Option Message → Turn
delivered w k stop None = Refused Unknown 0
delivered w k stop (Some m) = goes (arrives w k stop m)

abbrev pub deliver_line : World → ℕ → Stop → Turn
deliver_line w k stop = delivered w k stop (message_numbered w k)
