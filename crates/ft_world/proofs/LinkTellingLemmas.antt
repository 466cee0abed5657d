-- What is printed of a link, message by message.
use Rattle.std.proofs.Common.{◌≡◌, ℕ, suc, ◌+◌, Bool, true, false, List, [], ◌∷◌, ◌++◌, length, Option, Some, None, refl, sym, ap, subst, ◌∙◌, append_assoc, append-nil}
use Rattle.std.specs.Prelude.{if◌then◌else◌, slice_get}
use Rattle.std.specs.List.{AllByRecursion}
use Rattle.fault_script.specs.declared.lines.LineFault.{LineFault}
use Rattle.ft_base.specs.declared.decisions.Decision.{Decision}
use Rattle.ft_base.specs.declared.decisions.Decision.TheVariants as decisions
use Rattle.ft_base.specs.declared.decisions.Stop.TheVariants.{Never}
use Rattle.ft_base.specs.declared.numbers.HostNo.{HostNo}
use Rattle.ft_base.specs.declared.requests.Par.{Par}
use Rattle.ft_report.specs.declared.reports.ReportLine.{ReportLine}
use Rattle.ft_report.specs.declared.reports.ReportLine.TheVariants as reports
use Rattle.giop_messages.specs.declared.forms.Form.{Form}
use Rattle.giop_stream.specs.Parts.{Received}
use Rattle.giop_stream.specs.Sessions.{session}
use Rattle.group_model.specs.declared.asking.Asked.{Asked}
use Rattle.group_model.specs.declared.events.Event.{Event}
use Rattle.group_model.specs.declared.events.Inner.{Inner}
use Rattle.group_model.specs.declared.events.Inner.TheVariants as inners
use Rattle.group_model.specs.declared.events.Out.{Out}
use Rattle.group_model.specs.declared.events.GroupAnswer.{GroupAnswer}
use Rattle.group_model.specs.declared.events.GroupAnswer.TheVariants as group_answers
use Rattle.group_model.specs.Appending.{OnlyLeadersAppend as LeadersAppend}
use Rattle.group_model.specs.Replying.{IsDecidedAs}
use Rattle.group_model.specs.Views.{host_no}
use Rattle.iogr_reference.specs.Choices.{group_of_key}
use Rattle.iogr_reference.specs.declared.references.Ior.{Ior}
use Rattle.link_session.specs.Calls.{calling_of}
use Rattle.link_session.specs.Ports.{called, end_error, linked, served, step}
use Rattle.link_session.specs.declared.calls.Calling.{Calling}
use Rattle.link_session.specs.declared.calls.Calling.TheVariants.{Ask, Locate, Nothing}
use Rattle.script_groups.specs.Groups.{ScriptGroup, Placed, acted, common_of, machine_of, turn}
use Rattle.script_groups.specs.Lists.{get_set}
use Rattle.script_world.specs.World.{World, empty, is_up}
use Rattle.sys_faults.specs.declared.answers.Answer.{Answer}
use Rattle.world_management.specs.Hosts.{host_causes}
use Rattle.world_turns.specs.Sending.{sent_line, sent_lines}
use Rattle.world_turns.specs.Turns.{Effect, effect, first_cause, goes, says, unless}
use Rattle.ft_world.proofs.ComingLemmas.{asked_keeps, by_one}
use Rattle.ft_world.proofs.JournalLemmas.{made_after, truth_after}
use Rattle.ft_world.proofs.LeadLemmas.{appended_next, appends_at_leaders}
use Rattle.ft_world.proofs.MadeLemmas.{AllMade}
use Rattle.ft_world.proofs.TruthLemmas.{AllTrue, KnownGroups, knows_views}
use Rattle.ft_world.proofs.PlaceLemmas.{IsOneOf}
use Rattle.ft_world.proofs.PortLemmas.{written_is}
use Rattle.ft_world.specs.declared.asking.Said.{Said}
use Rattle.ft_world.specs.declared.asking.Said.TheVariants as saids
use Rattle.ft_world.specs.LinkTelling.{AnswersDecided, AppendsAsLeader, AreParts, EachDecided, InjectionsAppendAtLeaders, InjectionsTellOnce, IsHeard, IsInjected, IsLinkPrinted, IsPart, LinksTellOnce, OnDecision, PortAppendsAsLeader, PortTellsOnce, TellsOnce}
use Rattle.ft_world.specs.Laws.{world_after}
use Rattle.ft_world.specs.Leading.{AppendsAtLeaders}
use Rattle.ft_world.specs.Links.{bytes_lines, end_line, group_keyed, inject_line, link_of, port_turn, turn_by, world_port}
use Rattle.ft_world.specs.Replying.{EntriesAreReplied, IsSaidOf}
use Rattle.ft_world.specs.Requests.{Asking, ask, gives_asked, port_answer, request_at, said_by}

-- ---- the parts of a link

-- what comes of a link, where its host is up and where it isn't
abbrev heard : World → ℕ → List ℕ → Bool → Effect
heard w host bytes up = if up then link_of w host bytes else says w (reports.LinkLost ∷ [])

-- What is said of each request follows from what holds of the world to which it comes, and every request leaves that.
module _ (host : ℕ) (Holds : World → List ℕ → Asked → Type 0) (Stays : World → Type 0)
    (holds : (w : World) (key : List ℕ) (asked : Asked) → Stays w → Holds w key asked)
    (stays : (w : World) (key : List ℕ) (asked : Asked) → Stays w → Stays (port_turn w host asked (group_keyed w key)).world) where
  -- one more part, and the world in which the next message comes
  record IsNext (form : Form) (c : Calling) (old new : Effect) : Type 0 where
    lines : List ReportLine
    is : new.lines ≡ old.lines ++ lines
    part : IsPart host Holds form c old.world new.world lines
    so : Stays new.world

  called_part : (form : Form) (c : Calling) (e : Effect) → Stays e.world → IsNext form c e (called (world_port host) e form c)
  called_part form (Ask id flags key asked) e so = record {
    lines = _;
    is = refl;
    part = (record { world = refl; lines = refl }, holds e.world key asked so);
    so = stays e.world key asked so;
  }
  called_part form (Locate id key) e so = record { lines = _; is = refl; part = (refl, refl); so = so }
  called_part form Nothing e so = record { lines = []; is = sym (append-nil e.lines); part = (refl, refl); so = so }

  -- the parts of these messages
  record Adds (ms : List Received) (old new : Effect) : Type 0 where
    lines : List ReportLine
    is : new.lines ≡ old.lines ++ lines
    parts : AreParts host Holds ms old.world new.world lines

  served_parts : (ms : List Received) (e : Effect) → Stays e.world → Adds ms e (served (world_port host) e ms)
  unfolding served AreParts
  served_parts [] e so = record { lines = []; is = sym (append-nil e.lines); parts = (refl, refl) }
  served_parts (m ∷ ms) e so =
      let f : Effect = step (world_port host) e m.0 m.1 in
      let one : IsNext m.1 (calling_of m.0) e f = called_part m.1 (calling_of m.0) e so in
      let more : Adds ms f (served (world_port host) f ms) = served_parts ms f one.so in
      record {
        lines = one.lines ++ more.lines;
        is = more.is ∙ ap (λ (ls : List ReportLine). ls ++ more.lines) one.is ∙ append_assoc e.lines one.lines more.lines;
        parts = (f.world, one.lines, more.lines, refl, one.part, more.parts);
      }

  pub link_printed : (w : World) (bytes : List ℕ) → Stays w → IsLinkPrinted host Holds bytes w (link_of w host bytes).world (link_of w host bytes).lines
  link_printed w bytes so =
      let s = session bytes in
      let e : Effect = served (world_port host) (says w []) s.messages in
      let all : Adds s.messages (says w []) e = served_parts s.messages (says w []) so in
      let owed : List ReportLine = bytes_lines (end_error s.end) in
      let end : List ReportLine = end_line s.end ∷ [] in
      let ended : linked (world_port host) (says w []) bytes ≡ effect e.world (e.lines ++ owed) e.calls =
      written_is host e.world e.lines e.calls (end_error s.end) in
      record {
        parts = all.lines;
        are = subst (λ (v : World). AreParts host Holds s.messages w v all.lines) (sym (ap (λ (f : Effect). f.world) ended)) all.parts;
        is = ap (λ (f : Effect). f.lines ++ end) ended ∙ append_assoc e.lines owed end ∙ ap (λ (ls : List ReportLine). ls ++ (owed ++ end)) all.is;
      }

  pub injection_printed : (w : World) (bytes : List ℕ) → Stays w → IsInjected host Holds bytes w (inject_line w host bytes)
  injection_printed w bytes so = unless_refused (first_cause (host_causes w host))
    where
      by_host : (up : Bool) → IsHeard host Holds up bytes w (heard w host bytes up).world (heard w host bytes up).lines
      by_host true = link_printed w bytes so
      by_host false = (refl, refl)

      unless_refused : (o : Option LineFault) → IsInjected host Holds bytes w (unless o 0 (goes (heard w host bytes (is_up w host))))
      unless_refused None = by_host (is_up w host)
      unless_refused (Some why) = tt

-- ---- decisions

-- a message that is sent is no decision
sent_decides : (P : HostNo → List ℕ → Decision → Type 0) (number : ℕ) (name : List ℕ) (from to : HostNo) (carried : Inner) →
    OnDecision P (sent_line number name from to carried)
sent_decides P number name from to (inners.View version) = tt
sent_decides P number name from to (inners.State position state) = tt
sent_decides P number name from to (inners.Update base position update) = tt
sent_decides P number name from to (inners.Order index request) = tt

all_sent_decide : (P : HostNo → List ℕ → Decision → Type 0) (number : ℕ) (name : List ℕ) (from : HostNo) (outs : List Out) →
    AllByRecursion (OnDecision P) (sent_lines number name from outs)
unfolding sent_lines
all_sent_decide P number name from [] = tt
all_sent_decide P number name from (out ∷ outs) =
    (sent_decides P number name from out.to out.carried, all_sent_decide P (suc number) name from outs)

-- what is said of the decision of a reply
abbrev IfReplied : (HostNo → List ℕ → Decision → Type 0) → List ℕ → HostNo → Said → Type 0
IfReplied P name host (saids.Reply r) = P host name r.decision
IfReplied P name host (saids.Stopped decision) = Unit {0}
IfReplied P name host saids.Down = Unit {0}

turn_decides : (P : HostNo → List ℕ → Decision → Type 0) (w : World) (g : ScriptGroup) (host : HostNo) (calls : ℕ) (said : Said) →
    IfReplied P g.name host said → EachDecided P (turn_by w g host calls said)
turn_decides P w g host calls (saids.Reply r) is =
    record { before = (is, tt); behind = all_sent_decide (λ host name decision. ⊥) (length w.messages + 1) g.name host r.out }
turn_decides P w g host calls (saids.Stopped decision) is = record { before = tt; behind = tt }
turn_decides P w g host calls saids.Down is = record { before = tt; behind = tt }

-- ---- one reply

-- the reply of the entry of a group that stands at this place
answers_decided : (gs : List ScriptGroup) (place : ℕ) (g : ScriptGroup) (asked : Asked) (gives : Option Par) (redirect : Option Ior) (decision : Decision)
    (answer : Answer) → slice_get gs place ≡ Some g → IsDecidedAs (machine_of g) (common_of g) asked decision (Some answer) →
    AnswersDecided gs g.name decision (port_answer gives redirect answer)
answers_decided gs place g asked gives redirect (decisions.Append i) answer at is =
    record { place = place; group = g; at = at; named = refl; gives = gives; is = ap (port_answer gives redirect) is.1 }
answers_decided gs place g asked gives redirect (decisions.Repeat i) answer at is =
    record { place = place; group = g; at = at; named = refl; gives = gives; is = ap (port_answer gives redirect) is.1 }
answers_decided gs place g asked gives redirect other answer at is = tt

-- by what it says of a request, which left it so
turn_tells : (w : World) (place : ℕ) (before g : ScriptGroup) (host : HostNo) (asked : Asked) (calls : ℕ) (said : Said) → g.name ≡ before.name →
    slice_get w.groups place ≡ Some g → IsSaidOf g asked said → TellsOnce (turn_by w before host calls said)
turn_tells w place before g host asked calls (saids.Reply r) named at is =
    turn_decides _ w before host calls (saids.Reply r)
    (subst (λ (name : List ℕ). AnswersDecided w.groups name r.decision (port_answer r.gives r.redirect r.answer)) named
    (answers_decided w.groups place g asked r.gives r.redirect r.decision r.answer at is))
turn_tells w place before g host asked calls (saids.Stopped decision) named at is = record { before = tt; behind = tt }
turn_tells w place before g host asked calls saids.Down named at is = record { before = tt; behind = tt }

module _ (once : EntriesAreReplied) where
  asked_tells : (w : World) (host : ℕ) (asked : Asked) (o : Option (Placed ScriptGroup)) → IsOneOf w.groups o → TellsOnce (port_turn w host asked o)
  asked_tells w host asked None is = record { before = (tt, tt); behind = tt }
  asked_tells w host asked (Some p) is =
      let e : Event = request_at w (host_no host) asked Never in
      let a : Asking = ask w p (host_no host) asked Never in
      let at = get_set w.groups p.place (acted p.value e) p.value is in
      turn_tells a.world p.place p.value (acted p.value e) (host_no host) asked a.calls a.said refl at (once w p (host_no host) asked Never)

  port_tells_once : (host : ℕ) (w : World) (key : List ℕ) (asked : Asked) → PortTellsOnce host w key asked
  port_tells_once host w key asked = asked_tells w host asked (group_keyed w key) (by_one w (group_of_key key))

  pub links_tell_once : LinksTellOnce
  links_tell_once w host bytes =
      link_printed host (PortTellsOnce host) (λ v. Unit {0}) (λ v key asked so. port_tells_once host v key asked) (λ v key asked so. tt) w bytes tt

  pub injections_tell_once : InjectionsTellOnce
  injections_tell_once w host bytes =
      injection_printed host (PortTellsOnce host) (λ v. Unit {0}) (λ v key asked so. port_tells_once host v key asked) (λ v key asked so. tt) w bytes tt

-- ---- who appends

-- in a world where each request is appended at a host that may append it
module _ (w : World) (leaders : AppendsAtLeaders w) (host : ℕ) (key : List ℕ) (asked : Asked) where
  abbrev Leads : HostNo → List ℕ → Decision → Type 0
  Leads = AppendsAsLeader w key asked

  asked_leads : (p : Placed ScriptGroup) → group_keyed w key ≡ Some p → slice_get w.groups p.place ≡ Some p.value → EachDecided Leads (port_turn w host asked (Some p))
  asked_leads p keyed at = turn_decides Leads x.world p.value (host_no host) x.calls x.said (said (turn p.value e).answer refl)
    where
      e : Event
      e = request_at w (host_no host) asked Never

      x : Asking
      x = ask w p (host_no host) asked Never

      decided : (decision : Decision) (answer : Answer) (out : List Out) → (turn p.value e).answer ≡ group_answers.Reply decision (Some answer) out →
          Leads (host_no host) p.value.name decision
      decided (decisions.Append i) answer out is = record {
        group = p;
        keyed = keyed;
        named = refl;
        may = leaders p (host_no host) asked Never i (Some answer) out at is;
        last = appended_next w p (host_no host) asked Never i (Some answer) out is;
      }
      decided other answer out is = tt

      said : (a : GroupAnswer) → (turn p.value e).answer ≡ a → IfReplied Leads p.value.name (host_no host) (said_by (acted p.value e) (gives_asked p.value asked) a)
      said (group_answers.Reply decision (Some answer) out) is = decided decision answer out is
      said (group_answers.Reply decision None out) is = tt
      said other is = tt

  port_leads : PortAppendsAsLeader host w key asked
  port_leads = by_group (group_keyed w key) refl (by_one w (group_of_key key))
    where
      by_group : (o : Option (Placed ScriptGroup)) → group_keyed w key ≡ o → IsOneOf w.groups o → EachDecided Leads (port_turn w host asked o)
      by_group None keyed is = record { before = (tt, tt); behind = tt }
      by_group (Some p) keyed is = asked_leads p keyed is

-- What holds of the worlds of a script goes on holding in the midst of a link.
module _ (law : LeadersAppend) (known : KnownGroups) where
  -- they name what was made, and what they say is true
  abbrev IsWhole : World → Type 0
  IsWhole w = AllMade w × AllTrue w

  whole_leads : (host : ℕ) (w : World) (key : List ℕ) (asked : Asked) → IsWhole w → PortAppendsAsLeader host w key asked
  whole_leads host w key asked so = port_leads w (appends_at_leaders law w (knows_views w so.1)) host key asked

  whole_stays : (host : ℕ) (w : World) (key : List ℕ) (asked : Asked) → IsWhole w → IsWhole (port_turn w host asked (group_keyed w key)).world
  whole_stays host w key asked so =
      let keeps = asked_keeps w host asked (group_keyed w key) (by_one w (group_of_key key)) in (keeps.made so.0, keeps.told known so.0 so.1)

  pub injections_append_at_leaders : InjectionsAppendAtLeaders
  injections_append_at_leaders script host bytes =
      injection_printed host (PortAppendsAsLeader host) IsWhole (whole_leads host) (whole_stays host) (world_after empty script) bytes
      (made_after script, truth_after known script)
