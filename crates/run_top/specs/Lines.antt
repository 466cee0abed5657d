-- The lines of a script, what a run of them prints, and the laws over lines as laws of runs.
use Rattle.std.specs.List.{AllByRecursion}
use Rattle.std.specs.Prelude.{◌≡◌, ℕ, ◌+◌, ◌++◌, nat_lt, if◌then◌else◌, flat_map, sum_by, List, [], ◌∷◌, length, take, Option, Some, None, Result, Ok, Err}
use Rattle.fault_script.specs.Forms.{parse}
use Rattle.fault_script.specs.declared.lines.Line.{Line}
use Rattle.fault_script.specs.declared.lines.Line.TheVariants as lines
use Rattle.fault_script.specs.declared.lines.LineFault.{LineFault}
use Rattle.ft_base.specs.declared.decisions.Stop.{Stop}
use Rattle.ft_report.specs.Report.{report_text}
use Rattle.ft_report.specs.declared.reports.ReportLine.{ReportLine}
use Rattle.ft_world.specs.Acts.{act, act_first}
use Rattle.ft_world.specs.Leading.{TurnAppendsAtLeader}
use Rattle.ft_world.specs.LinkTelling.{IsInjected, PortAppendsAsLeader, PortTellsOnce}
use Rattle.ft_world.specs.Messages.{RepliesOnce}
use Rattle.ft_world.specs.Laws.{AllLater, EachOnce, KeepsEntries, calls_from, or_end, worked, world_after}
use Rattle.ft_world.specs.Replying.{TurnTellsOnce}
use Rattle.run_top.specs.Headline.{Run, script_run}
use Rattle.script_groups.specs.Groups.{entries_caught_up, entries_run, orders_applied}
use Rattle.script_pieces.specs.Runs.{lines_of, script_limit, text_of}
use Rattle.script_world.specs.World.{World, empty}
use Rattle.world_turns.specs.Turns.{Turn, Goes, Refused}

-- ---- the lines

-- by what the first of some texts reads as: a blank text is no line, and the lines end at a text that can't be read
abbrev pub in_front_read : Result (Option Line) LineFault → List Line → List Line
in_front_read (Err why) rest = []
in_front_read (Ok None) rest = rest
in_front_read (Ok (Some line)) rest = line ∷ rest

-- the lines that some texts read as, of which the first stands behind so many bytes of the script
unfoldable pub lines_read : ℕ → List (List ℕ) → List Line
lines_read before [] = []
lines_read before (text ∷ texts) =
    if nat_lt script_limit (before + length text) then []
    else in_front_read (parse (text_of text)) (lines_read (before + length text) texts)

abbrev pub script_lines : List ℕ → List Line
script_lines bytes = lines_read 0 (lines_of bytes)

-- ---- what they print

-- a line that is refused prints nothing
abbrev pub report_of : Turn → List ReportLine
report_of (Goes next report calls) = report
report_of (Refused why calls) = []

-- of some lines, up to the first that is refused
unfoldable pub reports_from : World → List Line → List ReportLine
reports_from w [] = []
reports_from w (line ∷ lines) =
    report_of (act w line) ++ or_end (act w line) (reports_from (worked w (act_first w line)) lines) []

-- ---- laws of runs

-- A run prints what its lines print, and calls servants as they do.
pub record IsRunOf (run : Run) (lines : List Line) : Type 0 where
  pub out : run.out ≡ flat_map report_text (reports_from empty lines)
  pub calls : run.calls ≡ calls_from empty lines

abbrev pub RunsAreOfLines : Type 0
RunsAreOfLines = (bytes : List ℕ) → IsRunOf (script_run bytes) (script_lines bytes)

-- the world of a script after so many of its lines
abbrev pub world_at : List ℕ → ℕ → World
world_at bytes count = world_after empty (take count (script_lines bytes))

abbrev pub last_world : List ℕ → World
last_world bytes = world_after empty (script_lines bytes)

-- At most once, after every line.
abbrev pub RunsAcceptOnce : Type 0
RunsAcceptOnce = (bytes : List ℕ) (count : ℕ) → EachOnce (world_at bytes count).groups

-- What a group has accepted after any line it keeps, with its reply.
abbrev pub RunsKeepEntries : Type 0
RunsKeepEntries = (bytes : List ℕ) (count : ℕ) → AllLater KeepsEntries (world_at bytes count).groups (last_world bytes).groups

-- The servant calls of a run are the entries that were run, those that hosts caught up with, and the orders that were
-- applied, the work of a line that a total refuses with it.
abbrev pub RunsCallServants : Type 0
RunsCallServants = (bytes : List ℕ) →
    let gs = (last_world bytes).groups in
    (script_run bytes).calls ≡ sum_by entries_run gs + sum_by entries_caught_up gs + sum_by orders_applied gs

-- ---- one reply

-- Where the next line is a delivery that prints `append I` or `repeat I`, the reply below it is entry I's, unless the host stopped.
abbrev pub RunsTellOnce : Type 0
RunsTellOnce = (bytes : List ℕ) (count k : ℕ) (stop : Stop) → TurnTellsOnce (act_first (world_at bytes count) (lines.Deliver k stop))

-- Where it injects a link that prints so, the bytes of the Reply below are entry I's, if a Reply is sent.
abbrev pub RunsTellOnceOnLinks : Type 0
RunsTellOnceOnLinks = (bytes : List ℕ) (count host : ℕ) (link : List ℕ) →
    let w = world_at bytes count in IsInjected host (PortTellsOnce host) link w (act_first w (lines.Inject host link))

-- And every outcome that was ever replied is that of its own request's entry, after every line.
abbrev pub RunsReplyOnce : Type 0
RunsReplyOnce = (bytes : List ℕ) (count : ℕ) → let w = world_at bytes count in AllByRecursion (RepliesOnce w.groups w.messages) w.messages

-- ---- who appends

-- Where the next line is a delivery that prints `append I`, its host might append, and entry I was the next.
abbrev pub RunsAppendAtLeaders : Type 0
RunsAppendAtLeaders = (bytes : List ℕ) (count k : ℕ) (stop : Stop) →
    let w = world_at bytes count in TurnAppendsAtLeader w.groups (act_first w (lines.Deliver k stop))

-- Where it injects a link that prints so, the host might append what came there, and entry I was the next.
abbrev pub RunsAppendAtLeadersOnLinks : Type 0
RunsAppendAtLeadersOnLinks = (bytes : List ℕ) (count host : ℕ) (link : List ℕ) →
    let w = world_at bytes count in IsInjected host (PortAppendsAsLeader host) link w (act_first w (lines.Inject host link))
