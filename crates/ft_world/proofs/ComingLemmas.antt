-- What a turn of a client, a message that comes and a link keep.
use Rattle.std.proofs.Common.{◌≡◌, ℕ, ◌+◌, ◌-◌, ◌<◌, arith, List, [], ◌∷◌, ◌++◌, length, Option, Some, None, refl, sym, ap, subst, ◌∙◌}
use Rattle.std.proofs.lemmas.Option.{slice_get_within}
use Rattle.std.specs.Prelude.{option_map, slice_get}
use Rattle.std.specs.List.{AllByRecursion}
use Rattle.ft_base.specs.declared.decisions.Decision.{Decision}
use Rattle.ft_base.specs.declared.decisions.Decision.TheVariants as decisions
use Rattle.ft_base.specs.declared.decisions.Stop.{Stop}
use Rattle.ft_base.specs.declared.decisions.Stop.TheVariants.{Never}
use Rattle.ft_base.specs.declared.numbers.GroupId.{GroupId}
use Rattle.ft_base.specs.declared.numbers.HostNo.{HostNo}
use Rattle.ft_base.specs.declared.requests.Par.{Par}
use Rattle.ft_base.specs.declared.views.View.{View}
use Rattle.client_retry.specs.Clients as retries
use Rattle.client_retry.specs.Invocations.{News, Reply}
use Rattle.ft_report.specs.declared.reports.ReportLine.{ReportLine}
use Rattle.ft_report.specs.declared.reports.ReportLine.TheVariants as reports
use Rattle.giop_stream.specs.Sessions.{session}
use Rattle.group_model.specs.declared.asking.Asked.{Asked}
use Rattle.group_model.specs.declared.events.Event.{Event}
use Rattle.group_model.specs.declared.events.GroupAnswer.{GroupAnswer}
use Rattle.group_model.specs.declared.events.GroupAnswer.TheVariants as group_answers
use Rattle.group_model.specs.declared.events.Out.{Out}
use Rattle.group_model.specs.Replying.{IsDecidedAs, IsEntryOf, IsNoOutcome}
use Rattle.group_model.specs.Sending.{brought, sent_by}
use Rattle.group_model.specs.Serving.{repeated}
use Rattle.group_model.specs.Versions.{IsHad}
use Rattle.group_model.specs.Views.{host_no}
use Rattle.host_ports.specs.Ports.{host_at}
use Rattle.host_server.specs.Replies.{no_group}
use Rattle.iogr_reference.specs.Choices.{group_of_key}
use Rattle.link_session.specs.Amid.{Grows, session_grows}
use Rattle.link_session.specs.Ports.{Replying, linked}
use Rattle.script_clients.specs.declared.answers.Attempt.{Attempt}
use Rattle.script_clients.specs.declared.answers.Call.{Call}
use Rattle.script_clients.specs.declared.answers.Told.{Told}
use Rattle.script_clients.specs.declared.answers.Told.TheVariants as tolds
use Rattle.script_clients.specs.Clients.{Client, Turn as Turned, after_news, going_on}
use Rattle.script_groups.specs.Groups.{ScriptGroup, Placed, acted, common_of, group_numbered, machine_of, placed, reply_of, turn}
use Rattle.script_groups.specs.Lists.{all_get, get_set, same_some}
use Rattle.sys_faults.specs.declared.answers.Answer.{Answer}
use Rattle.sys_faults.specs.declared.answers.Answer.TheVariants as answer_words
use Rattle.script_world.specs.declared.messages.Message.{Message}
use Rattle.script_world.specs.declared.messages.Message.TheVariants as messages
use Rattle.script_world.specs.declared.messages.Reply.{Reply as AReply}
use Rattle.script_world.specs.Sound.{AreInOrder}
use Rattle.script_world.specs.World.{World, is_up, with_client, with_event, with_messages}
use Rattle.group_core.specs.Telling.{shown_view}
use Rattle.ft_world.proofs.KeepingLemmas.{Keeps, Makes, MaySend, TellsHad, alike, as_many, behind, client_hears, client_tells, client_within, elsewhere, group_acts, group_sends, host_stops, if_keeps, none_more, one_made, outs_may, same, sends, sends_only, sends_then}
use Rattle.ft_world.proofs.MadeLemmas.{AllMade, Brings, BringsNews, IsNumber, Tells, at_its_number, news_so, news_told}
use Rattle.ft_world.proofs.TruthLemmas.{IsTrue, KnownGroups}
use Rattle.ft_world.proofs.PlaceLemmas.{IsAtNumber, IsOneNamed, IsOneOf, number_place, numbered_one, there_one, with_number_one}
use Rattle.ft_world.specs.Clients.{attempted, does}
use Rattle.ft_world.specs.Delivering.{answered, arrives, asked_by, asker_of, arrival_of, brought_to, heard_by, heard_of, redirected, redirected_to, replied, reply_to, requested, turned_away}
use Rattle.ft_world.specs.declared.deliveries.Asker.{Asker}
use Rattle.ft_world.specs.Leading.{HadViews}
use Rattle.ft_world.specs.Messages.{RepliesAs}
use Rattle.ft_world.specs.Replying.{IsSaidOf}
use Rattle.ft_world.specs.Requests.{Asking, ask, gives_asked, request_at, said_by}
use Rattle.ft_world.specs.declared.asking.Said.{Said}
use Rattle.ft_world.specs.declared.asking.Said.TheVariants as saids
use Rattle.ft_world.specs.Links.{group_by, group_keyed, link_of, port_turn, turn_by, world_port, written}
use Rattle.script_groups.specs.References.{reference_in}
use Rattle.world_monitors.specs.Arriving.{ping_of, pinged, pong_of, ponged}
use Rattle.world_monitors.specs.Polling.{asks}
use Rattle.world_management.specs.Hosts.{stopped}
use Rattle.world_turns.specs.Sending.{all_carried}
use Rattle.world_turns.specs.Naming.{Naming, NeverMade, Deleted, There, group_with_number}
use Rattle.world_turns.specs.Turns.{Effect, says}
use Rattle.ft_world.proofs.LaterLemmas.{Few}

-- ---- what a client does

attempt_keeps : (w : World) (client : ℕ) (name : List ℕ) (a : Attempt) (o : Option HostNo) → client < length w.clients →
    (AllMade w → IsNumber (length w.groups) a.group) → Makes w (attempted w client name a o)
attempt_keeps w client name a None at number = same w
attempt_keeps w client name a (Some host) at number =
    let ms : List Message = messages.Request client host a ∷ [] in
    alike w (with_messages w ms) (attempted w client name a (Some host)).world 0 refl refl refl refl
    (sends_only w ms (record { names = λ m. ((at, number m), tt); told = λ known m t. ((tt, tt), tt) }))

pub does_keeps : (w : World) (client : ℕ) (name : List ℕ) (gives : Option Par) (idle : List ReportLine) (told : Told) → client < length w.clients →
    (AllMade w → Tells (length w.groups) told) → Makes w (does w client name gives idle told)
does_keeps w client name gives idle (tolds.Attempt a) at tells = attempt_keeps w client name a (host_at a.port) at tells
does_keeps w client name gives idle (tolds.Adopted group version a) at tells = attempt_keeps w client name a (host_at a.port) at (λ m. (tells m).1)
does_keeps w client name gives idle (tolds.Ended number end) at tells = same w
does_keeps w client name gives idle tolds.Nothing at tells = same w

pub hears_none : (c : Client) (o : Option Call) (t : retries.Turn) (lines : ℕ) → Few lines c → Few lines (going_on c o t).client
hears_none c None t lines f = f
hears_none c (Some call) t lines f = f

-- news come to the client at a place
pub news_keep : (w : World) (i : ℕ) (c : Client) (news : News) (gives : Option Par) (idle : List ReportLine) → slice_get w.clients i ≡ Some c →
    (AllMade w → BringsNews (length w.groups) news) →
    Makes w (does (with_client w i (after_news c news).client) i c.name gives idle (after_news c news).told)
news_keep w i c news gives idle at brings =
    let t : Turned = after_news c news in
    let v : World = with_client w i t.client in
    let made : Effect = does v i c.name gives idle t.told in
    as_many w made.world (0 + made.calls) made.calls (omega arith)
    (behind w v made.world 0 made.calls
    (client_hears w i c t.client at (λ lines f. hears_none c c.call _ lines f) (λ m by. news_so (length w.groups) c news (brings m) by))
    (does_keeps v i c.name gives idle t.told (client_within w i c t.client at) (client_tells w i c t.client t.told at (λ n by. news_told n c news by))))

-- ---- a message that comes

-- the client and the group of a request
abbrev IsAsker : World → Asker → Type 0
IsAsker w a = (a.client < length w.clients) × (AreInOrder w.groups → IsNumber (length w.groups) a.group)

-- the reply to a request, if there is one, tells an entry's outcome if it tells any
abbrev IsTold : List ScriptGroup → List Message → Asker → Said → Type 0
IsTold gs ms a (saids.Reply r) = RepliesAs gs ms (reply_to a r.gives r.answer) r.answer
IsTold gs ms a (saids.Stopped decision) = Unit {0}
IsTold gs ms a saids.Down = Unit {0}

-- what is sent behind it
abbrev sent_in : Said → List Out
sent_in (saids.Reply r) = r.out
sent_in (saids.Stopped decision) = []
sent_in saids.Down = []

-- what was asked stands among the messages, and the group has answered it: then a reply with an outcome is that of an entry
module _ (gs : List ScriptGroup) (ms : List Message) (p : Placed ScriptGroup) (number : ℕ) (a : Asker) (asked : Attempt)
    (at : slice_get gs p.place ≡ Some p.value) (sent : slice_get ms number ≡ Some (messages.Request a.client a.host asked))
    (id : asked.id ≡ a.id) (to : asked.group ≡ a.group) (named : p.value.id ≡ a.group) where
  entry_told : (gives : Option Par) (i : ℕ) (answer : Answer) → IsEntryOf (common_of p.value).journal (asked_by asked) i →
      answer ≡ repeated (machine_of p.value) (common_of p.value) i → RepliesAs gs ms (reply_to a gives answer) answer
  entry_told gives i (answer_words.Done outcome) is_of tells = record {
    number = number;
    asked = asked;
    sent = sent;
    id = id;
    to = to;
    place = p.place;
    group = p.value;
    at = at;
    named = named;
    entry = i;
    is_of = is_of;
    tells = let same : outcome ≡ reply_of p.value i = cc in same;
  }
  entry_told gives i other is_of tells = tt

  none_told : (gives : Option Par) (answer : Answer) → IsNoOutcome (Some answer) → RepliesAs gs ms (reply_to a gives answer) answer
  none_told gives (answer_words.Done outcome) none = absurd none
  none_told gives other none = tt

  decided_told : (gives : Option Par) (decision : Decision) (answer : Answer) → IsDecidedAs (machine_of p.value) (common_of p.value) (asked_by asked) decision (Some answer) →
      RepliesAs gs ms (reply_to a gives answer) answer
  decided_told gives (decisions.Append i) answer is = entry_told gives i answer is.0 is.1
  decided_told gives (decisions.Repeat i) answer is = entry_told gives i answer is.0 is.1
  decided_told gives other answer is = none_told gives answer is

  said_told : (said : Said) → IsSaidOf p.value (asked_by asked) said → IsTold gs ms a said
  said_told (saids.Reply r) is = decided_told r.gives r.decision r.answer is
  said_told (saids.Stopped decision) is = tt
  said_told saids.Down is = tt

-- no more is sent than the group says
said_sends : (P : Out → Type 0) (g : ScriptGroup) (gives : Option Par) (answer : GroupAnswer) → AllByRecursion P (sent_by answer) →
    AllByRecursion P (sent_in (said_by g gives answer))
said_sends P g gives (group_answers.Reply decision (Some answer) out) all = all
said_sends P g gives (group_answers.Reply decision None out) all = tt
said_sends P g gives other all = tt

-- behind a request
request_sends : (w : World) (p : Placed ScriptGroup) (host : HostNo) (asked : Asked) (stop : Stop) → IsOneOf w.groups (Some p) →
    MaySend w (ask w p host asked stop).world p.value.id (sent_in (ask w p host asked stop).said)
request_sends w p host asked stop is =
    let e : Event = request_at w host asked stop in
    let v : World = with_event w p.place p.value e in
    let may : MaySend w v p.value.id (sent_by (turn p.value e).answer) = sends_then w p e is (λ m t. tt) in
    record {
      number = may.number;
      had = λ known m t. said_sends (λ (out : Out). HadViews v.groups p.value.id (brought out)) (acted p.value e) (gives_asked p.value asked) (turn p.value e).answer (may.had known m t);
    }

-- the reply comes first, and then what is sent
answered_keeps : (w v : World) (k : ℕ) (a : Asker) (said : Said) (calls : ℕ) → IsAsker v a → (KnownGroups → AllMade w → IsTold v.groups v.messages a said) →
    MaySend w v a.group (sent_in said) → Keeps w v calls → Keeps w (answered v k a said).world (calls + (answered v k a said).calls)
answered_keeps w v k a (saids.Reply r) calls asks told may keeps =
    let reply : List Message = messages.Reply (reply_to a r.gives r.answer) ∷ [] in
    let u : World = with_messages v reply in
    let ms : List Message = all_carried a.group r.out in
    none_more w (answered v k a (saids.Reply r)).world calls
    (alike w (with_messages u ms) (answered v k a (saids.Reply r)).world calls refl refl refl refl
    (sends w u ms calls (outs_may w v a.group r.out (v.messages ++ reply) may)
    (sends w v reply calls (record { names = λ m. ((asks.0, asks.1 m.ordered), tt); told = λ known m t. ((told known m, tt), tt) }) keeps)))
answered_keeps w v k a (saids.Stopped decision) calls asks told may keeps = behind w v (stopped v a.host) calls 0 keeps (host_stops v a.host)
answered_keeps w v k a saids.Down calls asks told may keeps = none_more w v calls keeps

turned_away_keeps : (w : World) (k : ℕ) (a : Asker) → IsAsker w a → Makes w (turned_away w k a)
turned_away_keeps w k a asks =
    let new : World = replied w a None None (answer_words.System no_group) in
    let reply : List Message = messages.Reply (reply_to a None (answer_words.System no_group)) ∷ [] in
    if_keeps w (is_up w a.host.0) (says new _) (says w _)
    (alike w (with_messages w reply) new 0 refl refl refl refl
    (sends_only w reply (record { names = λ m. ((asks.0, asks.1 m.ordered), tt); told = λ known m t. ((tt, tt), tt) }))) (same w)

same_group : (x y : GroupId) → x.0 ≡ y.0 → x ≡ y
same_group x y e = ap (λ (n : ℕ). record { 0 = n }) e

module _ (w : World) (k client : ℕ) (host : HostNo) (a : Attempt) (stop : Stop) (sent : slice_get w.messages (k - 1) ≡ Some (messages.Request client host a)) where
  asked_then : (p : Placed ScriptGroup) (c : Client) → slice_get w.groups p.place ≡ Some p.value → p.place + 1 ≡ a.group.0 → slice_get w.clients client ≡ Some c →
      Makes w (requested w k (arrival_of client host a) stop (There p) (Some c))
  asked_then p c is number at =
      let e : Event = request_at w host (asked_by a) stop in
      let x : Asking = ask w p host (asked_by a) stop in
      let by : Asker = asker_of (arrival_of client host a) p.value c in
      let new : Placed ScriptGroup = placed p.place (acted p.value e) in
      let stands : slice_get x.world.groups p.place ≡ Some (acted p.value e) = get_set w.groups p.place (acted p.value e) p.value is in
      let may : MaySend w x.world p.value.id (sent_in x.said) = request_sends w p host (asked_by a) stop is in
      answered_keeps w x.world k by x.said x.calls (slice_get_within w.clients client c at, may.number)
      (λ known m.
      let its_own = m.ordered p.place p.value is in
      said_told x.world.groups w.messages new (k - 1) by a stands sent refl (same_group a.group p.value.id (omega (arith, its_own, number))) refl x.said
      (known.replied w p host (asked_by a) stop))
      may (group_acts w p e is (λ m t. tt))

  requested_keeps : (n : Naming) (c : Option Client) → IsOneNamed w.groups n → IsAtNumber a.group.0 n → slice_get w.clients client ≡ c →
      Makes w (requested w k (arrival_of client host a) stop n c)
  requested_keeps NeverMade c is number at = same w
  requested_keeps (Deleted p) None is number at = same w
  requested_keeps (Deleted p) (Some c) is number at =
      turned_away_keeps w k (asker_of (arrival_of client host a) p.value c) (slice_get_within w.clients client c at, λ ordered. at_its_number w.groups p.place p.value ordered is)
  requested_keeps (There p) None is number at = same w
  requested_keeps (There p) (Some c) is number at = asked_then p c is number at

redirected_brings : (w : World) (o : Option (Placed ScriptGroup)) (version : ℕ) → IsOneOf w.groups o → AllMade w → Brings (length w.groups) (redirected_to o version)
redirected_brings w None version is m = tt
redirected_brings w (Some p) version is m = go (shown_view (common_of p.value) version)
  where
    go : (o : Option View) → Brings (length w.groups) (redirected (option_map (reference_in p.value) o))
    go None = tt
    go (Some view) = one_made w p is m

answer_brings : (w : World) (group : GroupId) (answer : Answer) → AllMade w → Brings (length w.groups) (heard_of w group answer)
answer_brings w group (answer_words.Done outcome) m = tt
answer_brings w group (answer_words.System fault) m = tt
answer_brings w group (answer_words.Forward version) m = redirected_brings w (group_numbered w.groups group.0) version.0 (numbered_one w.groups group.0) m
answer_brings w group (answer_words.ForwardPerm version) m = redirected_brings w (group_numbered w.groups group.0) version.0 (numbered_one w.groups group.0) m

heard_keeps : (w : World) (k : ℕ) (r : AReply) (o : Option Client) → slice_get w.clients r.client ≡ o → Makes w (heard_by w k r o)
heard_keeps w k r None at = same w
heard_keeps w k r (Some c) at =
    news_keep w r.client c (Reply r.id (heard_of w r.group r.answer) (record { 0 = w.clock })) r.gives (reports.UnheardReply k ∷ []) at
    (λ m. answer_brings w r.group r.answer m)

module _ (w : World) (k : ℕ) (group : GroupId) (out : Out) (sent : slice_get w.messages (k - 1) ≡ Some (messages.Carried group out)) where
  -- it tells of no view that its group hasn't had
  brings_had : (p : Placed ScriptGroup) → slice_get w.groups p.place ≡ Some p.value → p.place + 1 ≡ group.0 → TellsHad w p (brought out)
  brings_had p is number m t =
      let had : HadViews w.groups group (brought out) = (all_get (IsTrue w.groups w.messages) w.messages (k - 1) (messages.Carried group out) t.messages sent).1 in
      let place : group.0 - 1 ≡ p.place = omega (arith, number) in
      let same : had.is ≡ p.value = same_some had.is p.value (sym had.at ∙ (ap (λ (i : ℕ). slice_get w.groups i) place ∙ is)) in
      subst (λ (g : ScriptGroup). IsHad (common_of g) (brought out)) same had.had

  brought_keeps : (n : Naming) → IsOneNamed w.groups n → IsAtNumber group.0 n → Makes w (brought_to w k out n)
  brought_keeps NeverMade is number = same w
  brought_keeps (Deleted p) is number = same w
  brought_keeps (There p) is number = none_more w (with_event w p.place p.value (brought out)) (turn p.value (brought out)).calls (group_acts w p (brought out) is (brings_had p is number))

pinged_keeps : (w : World) (k : ℕ) (g : ScriptGroup) (host : HostNo) → (AllMade w → IsNumber (length w.groups) g.id) → Makes w (pinged w k g host)
pinged_keeps w k g host number =
    if_keeps w (is_up w host.0) (says (with_messages w pong) _) (says w _) (sends_only w pong (record { names = λ m. (number m, tt); told = λ known m t. ((tt, tt), tt) })) (same w)
  where
    pong : List Message
    pong = messages.Pong g.id host ∷ []

ping_keeps : (w : World) (k : ℕ) (host : HostNo) (n : Naming) → IsOneNamed w.groups n → Makes w (ping_of w k host n)
ping_keeps w k host NeverMade is = same w
ping_keeps w k host (Deleted p) is = same w
ping_keeps w k host (There p) is = pinged_keeps w k p.value host (one_made w p is)

pong_keeps : (w : World) (k : ℕ) (host : HostNo) (n : Naming) → Makes w (pong_of w k host n)
pong_keeps w k host NeverMade = same w
pong_keeps w k host (Deleted p) = same w
pong_keeps w k host (There p) = elsewhere w (ponged w k p.value host).world refl refl refl refl

pub arrives_keeps : (w : World) (k : ℕ) (stop : Stop) (m : Message) → slice_get w.messages (k - 1) ≡ Some m → Makes w (arrives w k stop m)
arrives_keeps w k stop (messages.Request client host a) at =
    requested_keeps w k client host a stop at (group_with_number w a.group.0) (slice_get w.clients client) (with_number_one w a.group.0) (number_place w a.group.0) refl
arrives_keeps w k stop (messages.Reply r) at = heard_keeps w k r (slice_get w.clients r.client) refl
arrives_keeps w k stop (messages.Carried group out) at =
    brought_keeps w k group out at (group_with_number w group.0) (with_number_one w group.0) (number_place w group.0)
arrives_keeps w k stop (messages.Ping group host) at = ping_keeps w k host (group_with_number w group.0) (with_number_one w group.0)
arrives_keeps w k stop (messages.Pong group host) at = pong_keeps w k host (group_with_number w group.0)

-- ---- a link

-- an effect behind those so far
pub record Further (e f : Effect) : Type 0 where
  pub calls : ℕ
  pub more : f.calls ≡ e.calls + calls
  pub keeps : Keeps e.world f.world calls

turn_keeps : (w v : World) (g : ScriptGroup) (host : HostNo) (calls : ℕ) (said : Said) → MaySend w v g.id (sent_in said) → Keeps w v calls →
    Keeps w (turn_by v g host calls said).world (turn_by v g host calls said).calls
turn_keeps w v g host calls (saids.Reply r) may keeps = group_sends w v g.id r.out calls may keeps
turn_keeps w v g host calls (saids.Stopped decision) may keeps = keeps
turn_keeps w v g host calls saids.Down may keeps = keeps

pub asked_keeps : (w : World) (host : ℕ) (asked : Asked) (o : Option (Placed ScriptGroup)) → IsOneOf w.groups o → Keeps w (port_turn w host asked o).world (port_turn w host asked o).calls
asked_keeps w host asked None is = same w
asked_keeps w host asked (Some p) is =
    let e : Event = request_at w (host_no host) asked Never in
    let x : Asking = ask w p (host_no host) asked Never in
    turn_keeps w x.world p.value (host_no host) x.calls x.said (request_sends w p (host_no host) asked Never is) (group_acts w p e is (λ m t. tt))

pub by_one : (w : World) (o : Option GroupId) → IsOneOf w.groups (group_by w o)
by_one w None = tt
by_one w (Some group) = there_one w.groups (group_with_number w group.0) (with_number_one w group.0)

none_further : (e f : Effect) → f.world ≡ e.world → f.calls ≡ e.calls + 0 → Further e f
none_further e f world calls = record { calls = 0; more = calls; keeps = subst (λ (w : World). Keeps e.world w 0) (sym world) (same e.world) }

further_on : (e f g : Effect) → Further e f → Further f g → Further e g
further_on e f g a b = record {
  calls = a.calls + b.calls;
  more = let first = a.more in let second = b.more in omega (arith, first, second);
  keeps = behind e.world f.world g.world a.calls b.calls a.keeps b.keeps;
}

pub links_keep : (host : ℕ) → Grows (world_port host) Further
links_keep host = record {
  same = λ (e : Effect). none_further e e refl (omega arith);
  next = further_on;
  asks = λ (e : Effect) (key : List ℕ) (asked : Asked) (reply : Replying).
      record {
        calls = (port_turn e.world host asked (group_keyed e.world key)).calls;
        more = refl;
        keeps = asked_keeps e.world host asked (group_keyed e.world key) (by_one e.world (group_of_key key));
      };
  writes = λ (e : Effect) (bytes : List ℕ). none_further e (written e bytes) refl refl;
}

pub link_keeps : (w : World) (host : ℕ) (bytes : List ℕ) → Makes w (link_of w host bytes)
link_keeps w host bytes =
    let all : Further (says w []) (linked (world_port host) (says w []) bytes) = session_grows (world_port host) Further (links_keep host) (says w []) (session bytes) in
    let more = all.more in
    as_many w (link_of w host bytes).world all.calls (link_of w host bytes).calls (omega (arith, more)) all.keeps
