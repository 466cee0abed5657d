-- The world as what answers requests on links, whatever the links are: a pass of it, and what a turn leaves of a pass.
use Rattle.std.specs.Prelude.{◌≡◌, ℕ, ◌+◌, ◌≤◌, Bool, true, false, if◌then◌else◌, not, List, [], ◌∷◌, ◌++◌, Result, Ok, Err}
use Rattle.cdr_codec.specs.declared.orders.Order.{Order}
use Rattle.ft_base.specs.declared.memory.NoMemory.{NoMemory}
use Rattle.ft_report.specs.declared.reports.ReportLine.{ReportLine}
use Rattle.ft_report.specs.declared.reports.ReportLine.TheVariants as reports
use Rattle.giop_stream.specs.Sessions.{session}
use Rattle.group_model.specs.declared.asking.Asked.{Asked}
use Rattle.host_server.specs.declared.answers.PortAnswer.{PortAnswer}
use Rattle.host_server.specs.declared.answers.PortAnswer.TheVariants as answers
use Rattle.host_server.specs.Replies.{CanReply, IsReply}
use Rattle.link_session.specs.Exchanges.{Exchange, Look, Request}
use Rattle.link_session.specs.Ports.{end_error}
use Rattle.link_session.specs.Serving.{IsServed, bytes_of}
use Rattle.script_world.specs.Sound.{IsKeptWorld}
use Rattle.script_world.specs.World.{World, is_there, is_up}
use Rattle.ft_world.specs.Links.{PortTurn, group_keyed, is_here, port_turn}

-- ---- a pass

-- The world, the servant calls that were counted, and whether memory was wanted: then nothing more is asked.
pub record Pass : Type 0 where
  pub world : World
  pub calls : ℕ
  pub short : Bool

abbrev pub pass_at : World → ℕ → Bool → Pass
pass_at w calls short = record { world = w; calls = calls; short = short }

-- a pass of the port
abbrev pub Fits : Bool → World → Type 0
Fits short w = short ≡ false → IsKeptWorld w

-- ---- a turn

-- a host that the script doesn't have is up
abbrev pub is_stopped : World → ℕ → Bool
is_stopped w host = if is_there w host then not (is_up w host) else false

abbrev pub turn_at : Pass → ℕ → List ℕ → Asked → PortTurn
turn_at p host key asked = port_turn p.world host asked (group_keyed p.world key)

-- the turn was made
pub record IsMade (t : PortTurn) (given : PortAnswer) (old new : Pass) : Type 0 where
  pub answer : given ≡ t.answer
  pub pass : new ≡ pass_at t.world (old.calls + t.calls) false
  pub before : old.short ≡ false

-- memory was wanted, and no more servant calls were made
pub record IsShort (t : PortTurn) (old new : Pass) : Type 0 where
  pub short : new.short ≡ true
  pub calls : new.calls ≤ old.calls + t.calls

-- by the answer: a host that is down has no turn
abbrev pub HasAnswered : ℕ → List ℕ → Asked → PortAnswer → Pass → Pass → Type 0
HasAnswered host key asked answers.NoMemory old new = IsShort (turn_at old host key asked) old new
HasAnswered host key asked answers.Down old new = (is_stopped old.world host ≡ true) × (new ≡ old)
HasAnswered host key asked answer old new = (is_stopped old.world host ≡ false) × IsMade (turn_at old host key asked) answer old new

-- an object is at a host that is up
abbrev pub looks : Pass → ℕ → List ℕ → Bool
looks p host key = if p.short then false else (if is_stopped p.world host then false else is_here host (group_keyed p.world key))

abbrev pub Exchanges : Pass → Exchange → Pass → Type 0
Exchanges old (Request host key asked answer) new = HasAnswered host key asked answer old new
Exchanges old (Look host key here) new = (new ≡ old) × (here ≡ looks old host key)

-- ---- what is printed

-- of requests: lines before the bytes of the next answer, and lines behind them
pub record Lines : Type 0 where
  pub before : List ReportLine
  pub behind : List ReportLine

abbrev pub lines_at : List ReportLine → List ReportLine → Lines
lines_at before behind = record { before = before; behind = behind }

abbrev pub with_turn : Lines → PortTurn → Lines
with_turn l t = lines_at (l.before ++ t.before) (l.behind ++ t.behind)

-- of a request that was answered so; where memory was wanted nothing is printed of all
abbrev pub IsToldOf : PortTurn → PortAnswer → Lines → Lines → Type 0
IsToldOf t answers.NoMemory old new = Unit {0}
IsToldOf t answers.Down old new = new ≡ old
IsToldOf t answer old new = new ≡ with_turn old t

abbrev pub Prints : Pass → Exchange → Lines → Lines → Type 0
Prints p (Request host key asked answer) old new = IsToldOf (turn_at p host key asked) answer old new
Prints p (Look host key here) old new = new ≡ old

-- ---- passes in code

-- Each has a pass and lines, and the names of its references: of those to the world and the counter, and of that to the
-- lines. By the names it is known that these stay where they are.
module _ {P N M : Type 0} (pass : P → Pass) (lines : P → Lines) (owned : P → N) (printing : P → M) where
  pub record IsExchanged (old : P) (e : Exchange) (new : P) : Type 0 where
    pub owned_stay : owned new ≡ owned old
    pub printed_stay : printing new ≡ printing old
    pub so : Exchanges (pass old) e (pass new)
    pub prints : Prints (pass old) e (lines old) (lines new)

-- a turn was made
pub record HasTurn (t : PortTurn) (given : PortAnswer) (new : World) (old later : Lines) : Type 0 where
  pub answer : given ≡ t.answer
  pub world : new ≡ t.world
  pub lines : later ≡ with_turn old t

-- its servant calls were counted; where memory was wanted, no more
abbrev pub Counts : PortTurn → Result PortAnswer NoMemory → ℕ → ℕ → Type 0
Counts t (Ok answer) before now = now ≡ before + t.calls
Counts t (Err why) before now = now ≤ before + t.calls

-- it can be written, in either byte order
pub record IsWritable (answer : PortAnswer) : Type 0 where
  pub reply : IsReply answer
  pub can : (order : Order) → CanReply order answer

-- ---- the octets on a link

abbrev pub octets_of : ReportLine → List ℕ
octets_of (reports.Bytes bytes) = bytes
octets_of other = []

-- of all lines that say them
unfoldable pub octets : List ReportLine → List ℕ
octets [] = []
octets (line ∷ lines) = octets_of line ++ octets lines

-- The octets that are printed of a link to this host with these bytes: what answers its messages, by turns that led from
-- one pass to another, and what its end is owed.
pub record IsLinkServed (host : ℕ) (bytes : List ℕ) (old new : Pass) (report : List ReportLine) : Type 0 where
  pub written : List ℕ
  pub served : IsServed Exchanges host (session bytes).messages old new written
  pub is : octets report ≡ written ++ bytes_of (end_error (session bytes).end)

-- ---- in the midst of a link

-- before the next message: nothing is to be printed behind, the host is up, and memory wasn't wanted
pub record IsReady (host : ℕ) (w : World) (behind : List ReportLine) (short : Bool) : Type 0 where
  pub kept : IsKeptWorld w
  pub up : is_up w host ≡ true
  pub flat : behind ≡ []
  pub whole : short ≡ false
