-- A request that comes to a group of a world. However it came there, this is its one way to the group.
use Rattle.std.specs.Prelude.{◌≡◌, ℕ, ◌+◌, ◌≤◌, Bool, true, false, List, Option, Some, None, IfSome, Result, Ok, Err}
use Rattle.std.specs.List.{AllByRecursion}
use Rattle.cdr_codec.specs.declared.orders.Order.{Order}
use Rattle.ft_base.specs.Machine.{gives_of}
use Rattle.ft_base.specs.declared.decisions.Decision.{Decision}
use Rattle.ft_base.specs.declared.decisions.Stop.{Stop}
use Rattle.ft_base.specs.declared.memory.NoMemory.{NoMemory}
use Rattle.ft_base.specs.declared.numbers.GroupId.{GroupId}
use Rattle.ft_base.specs.declared.numbers.HostNo.{HostNo}
use Rattle.ft_base.specs.declared.requests.Par.{Par}
use Rattle.group_model.specs.declared.asking.Asked.{Asked}
use Rattle.group_model.specs.declared.events.Event.{Event}
use Rattle.group_model.specs.declared.events.Event.TheVariants as events
use Rattle.group_model.specs.declared.events.GroupAnswer.{GroupAnswer}
use Rattle.group_model.specs.declared.events.GroupAnswer.TheVariants as group_answers
use Rattle.group_model.specs.declared.events.Out.{Out}
use Rattle.group_model.specs.Asking.{signature_asked}
use Rattle.host_server.specs.declared.answers.PortAnswer.{PortAnswer}
use Rattle.host_server.specs.declared.answers.PortAnswer.TheVariants as port_answers
use Rattle.host_server.specs.Replies.{CanGive, IsForward}
use Rattle.iogr_reference.specs.declared.references.Ior.{Ior}
use Rattle.sys_faults.specs.Bodies.{OnUnknown}
use Rattle.sys_faults.specs.declared.answers.Answer.{Answer}
use Rattle.sys_faults.specs.declared.answers.Answer.TheVariants as answers
use Rattle.script_groups.specs.Groups.{ScriptGroup, Placed, acted, machine_of, turn}
use Rattle.script_groups.specs.References.{ior_at}
use Rattle.script_world.specs.Sound.{IsOnItsWay}
use Rattle.script_world.specs.World.{World, carried, host_clock, with_event}
use Rattle.ft_world.specs.declared.asking.HostReply.{HostReply}
use Rattle.ft_world.specs.declared.asking.Said.{Said}
use Rattle.ft_world.specs.declared.asking.Said.TheVariants as saids

-- as it comes to a host, by that host's clock; a host that isn't there has the clock 0
abbrev pub request_at : World → HostNo → Asked → Stop → Event
request_at w host asked stop = events.Request host (record { 0 = host_clock w host.0 }) asked stop

-- ---- what a host says

-- the reference of the view to which an answer redirects, if it does, and there is that view
abbrev pub redirect_of : ScriptGroup → Answer → Option Ior
redirect_of g (answers.Done outcome) = None
redirect_of g (answers.System fault) = None
redirect_of g (answers.Forward version) = ior_at g version.0
redirect_of g (answers.ForwardPerm version) = ior_at g version.0

abbrev pub reply_by : ScriptGroup → Option Par → Decision → Answer → List Out → HostReply
reply_by g gives decision answer out =
    record { decision = decision; answer = answer; gives = gives; redirect = redirect_of g answer; out = out }

-- By what the group answers that has had the request. No more than these comes of a request: it has a reply exactly where
-- its host is up.
abbrev pub said_by : ScriptGroup → Option Par → GroupAnswer → Said
said_by g gives (group_answers.Reply decision (Some answer) out) = saids.Reply (reply_by g gives decision answer out)
said_by g gives (group_answers.Reply decision None out) = saids.Stopped decision
said_by g gives other = saids.Down

-- ---- the request

-- what comes of it: the world after it, what the host says, and the servant calls
pub record Asking : Type 0 where
  pub world : World
  pub said : Said
  pub calls : ℕ

abbrev pub gives_asked : ScriptGroup → Asked → Option Par
gives_asked g asked = gives_of (signature_asked (machine_of g) asked.op)

-- to the group at a place
abbrev pub ask : World → Placed ScriptGroup → HostNo → Asked → Stop → Asking
ask w p host asked stop =
    let e = request_at w host asked stop in
    let t = turn p.value e in
    record {
      world = with_event w p.place p.value e;
      said = said_by (acted p.value e) (gives_asked p.value asked) t.answer;
      calls = t.calls;
    }

-- ---- an answer as it goes over a link

-- there is no object whose view there isn't
abbrev pub forward_by : Bool → Option Ior → PortAnswer
forward_by perm None = port_answers.NoGroup
forward_by perm (Some ior) = port_answers.Forward perm ior

abbrev pub port_answer : Option Par → Option Ior → Answer → PortAnswer
port_answer gives redirect (answers.Done outcome) = port_answers.Done outcome gives
port_answer gives redirect (answers.System fault) = port_answers.System fault
port_answer gives redirect (answers.Forward version) = forward_by false redirect
port_answer gives redirect (answers.ForwardPerm version) = forward_by true redirect

-- ---- what code answers

-- as the definition says
pub record HasAsked (a : Asking) (told : Said) (new : World) (before now : ℕ) : Type 0 where
  pub world : new ≡ a.world
  pub said : told ≡ a.said
  pub calls : now ≡ before + a.calls

-- unless memory was wanted: then no more servant calls were made
abbrev pub Asks : Asking → Result Said NoMemory → World → ℕ → ℕ → Type 0
Asks a (Ok said) new before now = HasAsked a said new before now
Asks a (Err why) new before now = now ≤ before + a.calls

-- an answer can be written, if it has a reference where it redirects
abbrev pub IsInForm : Option Par → Answer → Type 0
IsInForm gives (answers.Done outcome) = CanGive gives outcome
IsInForm gives (answers.System fault) = OnUnknown fault.kind (λ id. ⊥)
IsInForm gives (answers.Forward version) = Unit {0}
IsInForm gives (answers.ForwardPerm version) = Unit {0}

abbrev pub CanRedirect : Option Ior → Type 0
CanRedirect redirect = IfSome redirect (λ (body : Ior). (order : Order) → IsForward order body)

abbrev pub CanRedirectIn : Said → Type 0
CanRedirectIn (saids.Reply r) = CanRedirect r.redirect
CanRedirectIn (saids.Stopped decision) = Unit {0}
CanRedirectIn saids.Down = Unit {0}

-- its answer can be written, and what it sends can come to the other members
pub record CanBeSent (groups : List ScriptGroup) (group : GroupId) (r : HostReply) : Type 0 where
  pub answer : IsInForm r.gives r.answer
  pub redirect : CanRedirect r.redirect
  pub sent : AllByRecursion (λ (o : Out). IsOnItsWay groups (carried group o)) r.out

abbrev pub CanBeSaid : List ScriptGroup → GroupId → Said → Type 0
CanBeSaid groups group (saids.Reply r) = CanBeSent groups group r
CanBeSaid groups group (saids.Stopped decision) = Unit {0}
CanBeSaid groups group saids.Down = Unit {0}
