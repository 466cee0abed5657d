-- A call of a made script: the attempt, its request at the group, and the reply.
use Rattle.std.proofs.Common.{◌≡◌, ℕ, ◌+◌, ◌<◌, ◌≤◌, arith, Bool, true, false, if◌then◌else◌, List, [], ◌∷◌, ◌++◌, append-nil, length, Option, Some, None, Result, Ok, refl, ap, ◌∙◌, codes, pos}
use Rattle.std.specs.Prelude.{◌==◌, slice_get, slice_set, unwrap_or}
use Rattle.client_retry.specs.declared.answers.End.{End}
use Rattle.client_retry.specs.declared.answers.End.TheVariants as ends
use Rattle.client_retry.specs.declared.limits.TheConstants.{LAST_ID}
use Rattle.client_retry.specs.declared.meanings.Meaning.TheVariants as meanings
use Rattle.client_retry.specs.Meanings as retries
use Rattle.fault_script.specs.Arguments.{call_words_of}
use Rattle.fault_script.specs.declared.arguments.CallWords.{CallWords}
use Rattle.fault_script.specs.declared.lines.Line.{Line}
use Rattle.fault_script.specs.declared.lines.Line.TheVariants as lines
use Rattle.fault_script.specs.declared.lines.LineFault.{LineFault}
use Rattle.ft_base.specs.declared.decisions.Stop.TheVariants.{Never}
use Rattle.ft_base.specs.declared.numbers.HostNo.{HostNo}
use Rattle.ft_base.specs.declared.numbers.Tick.{Tick}
use Rattle.ft_base.specs.declared.requests.Par.{Par}
use Rattle.ft_base.specs.declared.requests.Par.TheVariants.{I64}
use Rattle.ft_base.specs.declared.requests.Request.{Request}
use Rattle.ft_base.specs.declared.views.View.{View}
use Rattle.ft_world.specs.Acts.{act_first}
use Rattle.ft_world.specs.Clients.{attempted, begun, call_from, call_said, call_to, does, started_by}
use Rattle.ft_world.specs.declared.deliveries.Asker.{Asker}
use Rattle.ft_report.specs.declared.reports.ReportLine.TheVariants as reports
use Rattle.ft_world.specs.Delivering.{answered, arrival_of, asked_by, asker_of, delivered, heard_by, heard_of, requested}
use Rattle.ft_world.specs.Requests.{gives_asked, port_answer, redirect_of, reply_by, request_at, said_by}
use Rattle.ft_world.specs.declared.asking.Said.TheVariants as saids
use Rattle.ft_world.specs.declared.asking.Said.{Said}
use Rattle.group_model.specs.Views.{host_no}
use Rattle.group_model.specs.declared.events.Event.{Event}
use Rattle.host_ports.specs.Ports.{host_at}
use Rattle.iogr_reference.specs.declared.references.GroupRef.{GroupRef}
use Rattle.iogr_reference.specs.declared.references.Ior.{Ior}
use Rattle.message_sizes.specs.Sizes.{answer_size, request_size}
use Rattle.script_clients.specs.Clients.{Client, Taken, Turn as Turned, starting}
use Rattle.script_clients.specs.declared.answers.Attempt.{Attempt}
use Rattle.script_clients.specs.declared.answers.Told.TheVariants as tolds
use Rattle.script_groups.specs.Groups.{Placed, acted, placed, signature_of, turn}
use Rattle.script_groups.specs.References.{newest_reference}
use Rattle.script_world.specs.World.{World, at_most_one_past, client_named, with_client, with_event}
use Rattle.script_world.specs.Worlds.{begin}
use Rattle.script_world.specs.declared.limits.TheConstants.{DEFAULT_LIFE}
use Rattle.script_world.specs.declared.messages.Message.TheVariants as messages
use Rattle.script_world.specs.declared.messages.Reply.{Reply}
use Rattle.sys_faults.specs.declared.answers.Answer.{Answer}
use Rattle.sys_faults.specs.declared.answers.Answer.TheVariants.{Done, System, Forward, ForwardPerm}
use Rattle.world_turns.specs.Naming.{Naming, There}
use Rattle.world_turns.specs.Turns.{Effect, Goes, costing, goes}
use Rattle.made_worlds.proofs.Amounts.{said_of}
use Rattle.made_worlds.proofs.Bank.{IsEnd, IsEnded}
use Rattle.made_worlds.proofs.Callers.{Idler, after_call, bank_id, busy, first_attempt, goes_by, hears, idle, left, reference, starts, takes}
use Rattle.made_worlds.proofs.Happened.{more}
use Rattle.made_worlds.proofs.Replies.{MOST}
use Rattle.made_worlds.proofs.Worlds.{Does, State, bank_at, by_number, called, counted_most, numbered, world}

-- ---- the attempt

-- what a client asks by a call without options
abbrev pub asks : State → List ℕ → Idler → List ℕ → List ℕ → Request
asks s name c op args = record {
  key = Some (record { client = name; retention = record { 0 = pos (c.numbered + 1) }; expiration = record { 0 = s.clock + DEFAULT_LIFE } });
  op = op;
  args = args;
}

-- the world with its request on the way to a host
abbrev pub with_call : State → ℕ → ℕ → Client → Attempt → State
with_call s place host c a = record s {
  clients = slice_set s.clients place c;
  messages = s.messages ++ messages.Request place (host_no host) a ∷ [];
  bytes = at_most_one_past (s.bytes + request_size a);
}

-- the first profile of a reference, to which a client without faults goes, is this host's
pub record LeadsAt (view : View) (host : ℕ) : Type 0 where
  pub some : (length (reference view).profiles == 0) ≡ false
  pub port : (c : Idler) (q : Request) → host_at (first_attempt view c q).port ≡ Some (host_no host)

pub call_goes : (s : State) (view : View) (host place : ℕ) (name : List ℕ) (c : Idler) (op : List ℕ) (words : List (List ℕ)) (args : List ℕ) →
    newest_reference (bank_at s) ≡ reference view → LeadsAt view host →
    client_named (world s) name ≡ Some (placed place (idle name view c)) →
    call_words_of (signature_of (bank_at s) op) words ≡ Ok (said_of args) → c.last < LAST_ID →
    let q = asks s name c op args in
    Does s (lines.Call name (codes "bank") op words) (with_call s place host (busy name view c (record { 0 = s.clock + DEFAULT_LIFE }) q) (first_attempt view c q))
call_goes s view host place name c op words args newest leads named reads early = record { report = _; calls = _; is = all }
  where
    w : World
    w = world s

    p : Placed Client
    p = placed place (idle name view c)

    q : Request
    q = asks s name c op args

    e : Tick
    e = record { 0 = s.clock + DEFAULT_LIFE }

    a : Attempt
    a = first_attempt view c q

    took : Option GroupRef
    took = if c.met then Some (reference view) else None

    by : unwrap_or took (newest_reference (bank_at s)) ≡ reference view
    by = ap (unwrap_or took) newest ∙ goes_by view c.met

    all : act_first w (lines.Call name (codes "bank") op words) ≡ goes (attempted (with_client w place (busy name view c e q)) place name a (Some (host_no host)))
    all =
        ap (λ (n : Naming). call_to w name n op words) (called s)
        ∙ ap (λ (r : Result CallWords LineFault). call_said w name (bank_at s) op r) reads
        ∙ ap (λ (o : Option (Placed Client)). call_from w o (bank_at s) op (said_of args)) named
        ∙ ap (λ (t : Taken). goes (started_by w p (begin t.client (begun w (idle name view c) (bank_at s) op (said_of args) t.reference)))) (takes name view c)
        ∙ ap (λ (r : GroupRef). goes (started_by w p (starting (left name c) r e true true q))) by
        ∙ ap (λ (t : Turned). goes (started_by w p t)) (starts name view c e q early leads.some)
        ∙ ap (λ (o : Option HostNo). goes (attempted (with_client w place (busy name view c e q)) place name a o)) (leads.port c q)

-- ---- the request

-- the reply of a host to the client at a place
abbrev pub reply_from : ℕ → ℕ → ℕ → Answer → Reply
reply_from place host id said =
    record { client = place; group = bank_id; host = host_no host; id = id; answer = said; gives = Some I64 }

-- the world with a reply on the way
abbrev pub with_reply : State → Event → Reply → ℕ → State
with_reply s e r bytes = record s { past = more s.past e; messages = s.messages ++ messages.Reply r ∷ []; bytes = bytes }

-- a line that has the request with this id come to a host, which replies
pub record Replied (s : State) (line : Line) (e : Event) (place host id : ℕ) : Type 0 where
  pub said : Answer
  pub ends : IsEnd said
  pub bytes : ℕ
  pub short : bytes ≤ s.bytes + MOST
  pub does : Does s line (with_reply s e (reply_from place host id said) bytes)

end_short : (said : Answer) (redirect : Option Ior) → IsEnd said → answer_size (port_answer (Some I64) redirect said) ≤ MOST
end_short (Done outcome) redirect brief = brief
end_short (System fault) redirect is = is.1
end_short (Forward version) redirect is = absurd is
end_short (ForwardPerm version) redirect is = absurd is

pub request_comes : (s : State) (place host : ℕ) (client : Client) (view : View) (c : Idler) (q : Request) (k : ℕ) →
    slice_get s.messages k ≡ Some (messages.Request place (host_no host) (first_attempt view c q)) → slice_get s.clients place ≡ Some client →
    gives_asked (bank_at s) (asked_by (first_attempt view c q)) ≡ Some I64 →
    let e = request_at (world s) (host_no host) (asked_by (first_attempt view c q)) Never in
    IsEnded (turn (bank_at s) e).answer → Replied s (lines.Deliver (k + 1) Never) e place host (c.last + 1)
request_comes s place host client view c q k at there gives ended = record {
  said = ended.said;
  ends = ended.ends;
  bytes = all_bytes;
  short = few;
  does = record { report = _; calls = _; is = all };
}
  where
    w : World
    w = world s

    a : Attempt
    a = first_attempt view c q

    e : Event
    e = request_at w (host_no host) (asked_by a) Never

    asker : Asker
    asker = asker_of (arrival_of place (host_no host) a) (bank_at s) client

    redirect : Option Ior
    redirect = redirect_of (acted (bank_at s) e) ended.said

    size : ℕ
    size = answer_size (port_answer (Some I64) redirect ended.said)

    all_bytes : ℕ
    all_bytes = at_most_one_past (at_most_one_past (s.bytes + size) + 0)

    few : all_bytes ≤ s.bytes + MOST
    few = omega (arith, counted_most (at_most_one_past (s.bytes + size) + 0), counted_most (s.bytes + size), end_short ended.said redirect ended.ends)

    says_so : said_by (acted (bank_at s) e) (gives_asked (bank_at s) (asked_by a)) (turn (bank_at s) e).answer ≡ saids.Reply (reply_by (acted (bank_at s) e) (Some I64) ended.decision ended.said [])
    says_so = ap (λ (g : Option Par). said_by (acted (bank_at s) e) g (turn (bank_at s) e).answer) gives ∙ ap (said_by (acted (bank_at s) e) (Some I64)) ended.is

    same : (s.messages ++ messages.Reply (reply_from place host (c.last + 1) ended.said) ∷ []) ++ [] ≡ s.messages ++ messages.Reply (reply_from place host (c.last + 1) ended.said) ∷ []
    same = append-nil (s.messages ++ messages.Reply (reply_from place host (c.last + 1) ended.said) ∷ [])

    last : Effect
    last = costing (turn (bank_at s) e).calls (answered (with_event w 0 (bank_at s) e) (k + 1) asker (saids.Reply (reply_by (acted (bank_at s) e) (Some I64) ended.decision ended.said [])))

    all : act_first w (lines.Deliver (k + 1) Never) ≡ Goes (world (with_reply s e (reply_from place host (c.last + 1) ended.said) all_bytes)) last.lines last.calls
    all =
        ap (delivered w (k + 1) Never) (by_number s k (messages.Request place (host_no host) a) at)
        ∙ ap (λ (n : Naming). goes (requested w (k + 1) (arrival_of place (host_no host) a) Never n (slice_get s.clients place))) (numbered s)
        ∙ ap (λ (o : Option Client). goes (requested w (k + 1) (arrival_of place (host_no host) a) Never (There (placed 0 (bank_at s))) o)) there
        ∙ ap (λ (said : Said). goes (costing (turn (bank_at s) e).calls (answered (with_event w 0 (bank_at s) e) (k + 1) asker said))) says_so
        ∙ (λ i. Goes (record (world (with_reply s e (reply_from place host (c.last + 1) ended.said) all_bytes)) { messages = same i }) last.lines last.calls)

-- ---- the reply

-- what an answer that ends an invocation means to it
final_of : (w : World) (view : View) (said : Answer) (now : Tick) → IsEnd said → (end : End) × (retries.said (reference view) now (heard_of w bank_id said) ≡ meanings.Final end)
final_of w view (Done outcome) now is = (ends.Outcome outcome, refl)
final_of w view (System fault) now is = (ends.System fault, ap (λ (b : Bool). if b then meanings.Fault now else meanings.Final (ends.System fault)) is.0)
final_of w view (Forward version) now is = absurd is
final_of w view (ForwardPerm version) now is = absurd is

pub reply_heard : (s : State) (place host : ℕ) (name : List ℕ) (view : View) (c : Idler) (expiration : Tick) (q : Request) (said : Answer) (k : ℕ) →
    slice_get s.messages k ≡ Some (messages.Reply (reply_from place host (c.last + 1) said)) →
    slice_get s.clients place ≡ Some (busy name view c expiration q) → IsEnd said →
    Does s (lines.Deliver (k + 1) Never) (record s { clients = slice_set s.clients place (idle name view (after_call c)) })
reply_heard s place host name view c expiration q said k at there ends_it = record { report = _; calls = _; is = all }
  where
    w : World
    w = world s

    r : Reply
    r = reply_from place host (c.last + 1) said

    now : Tick
    now = record { 0 = s.clock }

    final : (end : End) × (retries.said (reference view) now (heard_of w bank_id said) ≡ meanings.Final end)
    final = final_of w view said now ends_it

    last : Effect
    last = does (with_client w place (idle name view (after_call c))) place name (Some I64) (reports.UnheardReply (k + 1) ∷ []) (tolds.Ended (c.started + 1) final.0)

    all : act_first w (lines.Deliver (k + 1) Never) ≡ Goes (world (record s { clients = slice_set s.clients place (idle name view (after_call c)) })) last.lines last.calls
    all =
        ap (delivered w (k + 1) Never) (by_number s k (messages.Reply r) at)
        ∙ ap (λ (o : Option Client). goes (heard_by w (k + 1) r o)) there
        ∙ ap (λ (t : Turned). goes (does (with_client w place t.client) place name (Some I64) (reports.UnheardReply (k + 1) ∷ []) t.told))
        (hears name view c expiration q (heard_of w bank_id said) now final.0 final.1)
