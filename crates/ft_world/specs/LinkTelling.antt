-- What is printed of a link: of each of its messages a part, and of its end. Each acceptance among them has one reply.
use Rattle.std.specs.Prelude.{◌≡◌, ℕ, Bool, true, false, List, [], ◌∷◌, ◌++◌, length, slice_get, Option, Some}
use Rattle.std.specs.List.{AllByRecursion}
use Rattle.fault_script.specs.declared.lines.Line.{Line}
use Rattle.ft_base.specs.declared.decisions.Decision.{Decision}
use Rattle.ft_base.specs.declared.decisions.Decision.TheVariants as decisions
use Rattle.ft_base.specs.declared.numbers.HostNo.{HostNo}
use Rattle.ft_base.specs.declared.requests.Par.{Par}
use Rattle.ft_report.specs.declared.reports.ReportLine.{ReportLine}
use Rattle.ft_report.specs.declared.reports.ReportLine.TheVariants as reports
use Rattle.giop_messages.specs.declared.forms.Form.{Form}
use Rattle.giop_stream.specs.Parts.{Received}
use Rattle.giop_stream.specs.Sessions.{session}
use Rattle.group_model.specs.declared.asking.Asked.{Asked}
use Rattle.group_model.specs.Appending.{MayAppend}
use Rattle.host_server.specs.declared.answers.PortAnswer.{PortAnswer}
use Rattle.host_server.specs.declared.answers.PortAnswer.TheVariants.{Done}
use Rattle.link_session.specs.Calls.{calling_of}
use Rattle.link_session.specs.Ports.{end_error, locate_reply_of, reply_of}
use Rattle.link_session.specs.declared.calls.Calling.{Calling}
use Rattle.link_session.specs.declared.calls.Calling.TheVariants.{Ask, Locate, Nothing}
use Rattle.script_groups.specs.Groups.{ScriptGroup, Placed, common_of, group_of, reply_of as reply_in}
use Rattle.script_world.specs.World.{World, empty, is_up}
use Rattle.world_turns.specs.Turns.{Turn, Goes, Refused}
use Rattle.ft_world.specs.Laws.{world_after}
use Rattle.ft_world.specs.Links.{PortTurn, bytes_lines, end_line, group_keyed, inject_line, is_here, link_of, port_turn}

-- ---- the parts

-- A request's turn: the world is the turn's, and between its lines stand the bytes of the Reply, where one is sent.
pub record IsTurnPart (t : PortTurn) (bytes : Option (List ℕ)) (new : World) (report : List ReportLine) : Type 0 where
  pub world : new ≡ t.world
  pub lines : report ≡ t.before ++ (bytes_lines bytes ++ t.behind)

-- where nothing is asked of a group: these lines, and the world stays
abbrev pub Says : List ReportLine → World → World → List ReportLine → Type 0
Says lines w new report = (new ≡ w) × (report ≡ lines)

-- Each part is that of a message to this host; and this is said of each request with an object key that came to a world.
module _ (host : ℕ) (Holds : World → List ℕ → Asked → Type 0) where
  -- by what a message calls for
  abbrev pub IsPart : Form → Calling → World → World → List ReportLine → Type 0
  IsPart form (Ask id flags key asked) w new report =
      let t = port_turn w host asked (group_keyed w key) in IsTurnPart t (reply_of id flags form t.answer) new report × Holds w key asked
  IsPart form (Locate id key) w new report =
      Says (reports.Bytes (locate_reply_of id form (is_here host (group_keyed w key))) ∷ []) w new report
  IsPart form Nothing w new report = Says [] w new report

  -- of messages that come one after another, each to the world that the last one left
  unfoldable pub AreParts : List Received → World → World → List ReportLine → Type 0
  AreParts [] w new report = Says [] w new report
  AreParts (m ∷ ms) w new report =
      (next : World) × (first rest : List ReportLine) × (report ≡ first ++ rest) × IsPart m.1 (calling_of m.0) w next first × AreParts ms next new rest

  -- All that is printed of a link with these bytes: its messages' parts, then a MessageError where its end is owed one, and
  -- how it ended.
  pub record IsLinkPrinted (bytes : List ℕ) (w new : World) (report : List ReportLine) : Type 0 where
    pub parts : List ReportLine
    pub are : AreParts (session bytes).messages w new parts
    pub is : report ≡ parts ++ (bytes_lines (end_error (session bytes).end) ++ end_line (session bytes).end ∷ [])

  -- a host that is down prints that it lost the link, and no more
  abbrev pub IsHeard : Bool → List ℕ → World → World → List ReportLine → Type 0
  IsHeard true bytes w new report = IsLinkPrinted bytes w new report
  IsHeard false bytes w new report = Says (reports.LinkLost ∷ []) w new report

  abbrev pub IsInjected : List ℕ → World → Turn → Type 0
  IsInjected bytes w (Goes next report calls) = IsHeard (is_up w host) bytes w next report
  IsInjected bytes w (Refused why calls) = Unit {0}

-- ---- decisions

-- what is said of a host's decision in the group with this name, where a line is one
abbrev pub OnDecision : (HostNo → List ℕ → Decision → Type 0) → ReportLine → Type 0
OnDecision P (reports.At host name decision) = P host name decision
OnDecision P other = Unit {0}

-- of each decision that is printed of a request: all stand before the bytes of its Reply
pub record EachDecided (P : HostNo → List ℕ → Decision → Type 0) (t : PortTurn) : Type 0 where
  pub before : AllByRecursion (OnDecision P) t.before
  pub behind : AllByRecursion (OnDecision (λ host name decision. ⊥)) t.behind

-- ---- one reply

-- an answer that tells the reply of a place in the journal of the group with this name
pub record IsReplyIn (gs : List ScriptGroup) (name : List ℕ) (i : ℕ) (answer : PortAnswer) : Type 0 where
  pub place : ℕ
  pub group : ScriptGroup
  pub at : slice_get gs place ≡ Some group
  pub named : group.name ≡ name
  pub gives : Option Par
  pub is : answer ≡ Done (reply_in group i) gives

abbrev pub AnswersDecided : List ScriptGroup → List ℕ → Decision → PortAnswer → Type 0
AnswersDecided gs name (decisions.Append i) answer = IsReplyIn gs name i answer
AnswersDecided gs name (decisions.Repeat i) answer = IsReplyIn gs name i answer
AnswersDecided gs name other answer = Unit {0}

-- Where `append I` or `repeat I` is printed of a request, the Reply to it, if one is sent, tells entry I's one reply.
abbrev pub TellsOnce : PortTurn → Type 0
TellsOnce t = EachDecided (λ host name decision. AnswersDecided t.world.groups name decision t.answer) t

abbrev pub PortTellsOnce : ℕ → World → List ℕ → Asked → Type 0
PortTellsOnce host w key asked = TellsOnce (port_turn w host asked (group_keyed w key))

-- So it is of all messages of a link, whatever the world
abbrev pub LinksTellOnce : Type 0
LinksTellOnce = (w : World) (host : ℕ) (bytes : List ℕ) →
    let e = link_of w host bytes in IsLinkPrinted host (PortTellsOnce host) bytes w e.world e.lines

-- and of those that a script injects.
abbrev pub InjectionsTellOnce : Type 0
InjectionsTellOnce = (w : World) (host : ℕ) (bytes : List ℕ) → IsInjected host (PortTellsOnce host) bytes w (inject_line w host bytes)

-- ---- who appends

-- A host may append what it was asked at this place, which is the journal's end, in the group with this name, which is the
-- one that the object key names.
pub record MayAppendBy (w : World) (key : List ℕ) (asked : Asked) (host : HostNo) (name : List ℕ) (i : ℕ) : Type 0 where
  pub group : Placed ScriptGroup
  pub keyed : group_keyed w key ≡ Some group
  pub named : group.value.name ≡ name
  pub may : MayAppend (group_of group.value) host.0 asked
  pub last : i ≡ length (common_of group.value).journal

abbrev pub AppendsAsLeader : World → List ℕ → Asked → HostNo → List ℕ → Decision → Type 0
AppendsAsLeader w key asked host name (decisions.Append i) = MayAppendBy w key asked host name i
AppendsAsLeader w key asked host name other = Unit {0}

-- Where `append I` is printed of a request, the host might append it in the group as that stood when it came, and entry I was
-- the next.
abbrev pub PortAppendsAsLeader : ℕ → World → List ℕ → Asked → Type 0
PortAppendsAsLeader host w key asked = EachDecided (AppendsAsLeader w key asked) (port_turn w host asked (group_keyed w key))

-- So it is of all messages of a link that is injected in a world of a script.
abbrev pub InjectionsAppendAtLeaders : Type 0
InjectionsAppendAtLeaders = (script : List Line) (host : ℕ) (bytes : List ℕ) →
    let w = world_after empty script in IsInjected host (PortAppendsAsLeader host) bytes w (inject_line w host bytes)
