-- `inject H HEX`: the bytes of a whole link come to a host, which serves the link's session through a port.
-- (GIOP chapter, "GIOP Message Transfer".)
use Rattle.std.specs.Prelude.{ℕ, ◌+◌, Bool, false, if◌then◌else◌, List, [], ◌∷◌, ◌++◌, length, Option, Some, None}
use Rattle.ft_base.specs.declared.decisions.Stop.TheVariants.{Never}
use Rattle.ft_base.specs.declared.numbers.GroupId.{GroupId}
use Rattle.ft_base.specs.declared.numbers.HostNo.{HostNo}
use Rattle.ft_report.specs.declared.reports.ReportLine.{ReportLine}
use Rattle.ft_report.specs.declared.reports.ReportLine.TheVariants as reports
use Rattle.giop_stream.specs.declared.sessions.StreamEnd.{StreamEnd}
use Rattle.giop_stream.specs.declared.sessions.StreamEnd.TheVariants.{Closed, Malformed, TooLarge}
use Rattle.giop_stream.specs.Sessions.{session}
use Rattle.group_model.specs.declared.asking.Asked.{Asked}
use Rattle.group_model.specs.Views.{host_no}
use Rattle.host_server.specs.declared.answers.PortAnswer.{PortAnswer}
use Rattle.host_server.specs.declared.answers.PortAnswer.TheVariants as port_answers
use Rattle.iogr_reference.specs.Choices.{group_of_key}
use Rattle.link_session.specs.Ports.{Port, linked}
use Rattle.script_groups.specs.Groups.{ScriptGroup, Placed, knows_as_member}
use Rattle.world_management.specs.Hosts.{host_causes}
use Rattle.world_turns.specs.Sending.{all_sent, sent_lines}
use Rattle.script_world.specs.World.{World, is_up}
use Rattle.world_turns.specs.Naming.{group_with_number, there_only}
use Rattle.world_turns.specs.Turns.{Effect, Turn, effect, first_cause, goes, says, unless}
use Rattle.ft_world.specs.declared.asking.HostReply.{HostReply}
use Rattle.ft_world.specs.declared.asking.Said.{Said}
use Rattle.ft_world.specs.declared.asking.Said.TheVariants as saids
use Rattle.ft_world.specs.Requests.{ask, port_answer}

-- ---- the group that an object key names, if it is there

abbrev pub group_by : World → Option GroupId → Option (Placed ScriptGroup)
group_by w None = None
group_by w (Some group) = there_only (group_with_number w group.0)

abbrev pub group_keyed : World → List ℕ → Option (Placed ScriptGroup)
group_keyed w key = group_by w (group_of_key key)

-- ---- a request over a link

-- What comes of a request at a host: the world after it, the host's answer, what is printed before the answer's bytes
-- and behind them, and the servant calls.
pub record PortTurn : Type 0 where
  pub world : World
  pub answer : PortAnswer
  pub before : List ReportLine
  pub behind : List ReportLine
  pub calls : ℕ

-- the host replies, and then sends orders to other members
abbrev pub replied_turn : World → ScriptGroup → HostNo → ℕ → HostReply → PortTurn
replied_turn w g host calls r = record {
  world = all_sent w g.id r.out;
  answer = port_answer r.gives r.redirect r.answer;
  before = reports.At host g.name r.decision ∷ [];
  behind = sent_lines (length w.messages + 1) g.name host r.out;
  calls = calls;
}

-- nothing is printed
abbrev pub unheard_turn : World → ℕ → PortTurn
unheard_turn w calls = record { world = w; answer = port_answers.NoGroup; before = []; behind = []; calls = calls }

-- by what the host says, which is up, and doesn't stop
abbrev pub turn_by : World → ScriptGroup → HostNo → ℕ → Said → PortTurn
turn_by w g host calls (saids.Reply r) = replied_turn w g host calls r
turn_by w g host calls (saids.Stopped decision) = unheard_turn w calls
turn_by w g host calls saids.Down = unheard_turn w calls

abbrev pub no_group_turn : World → ℕ → PortTurn
no_group_turn w host =
    record { world = w; answer = port_answers.NoGroup; before = reports.NoGroup (host_no host) ∷ []; behind = []; calls = 0 }

abbrev pub port_turn : World → ℕ → Asked → Option (Placed ScriptGroup) → PortTurn
port_turn w host asked None = no_group_turn w host
port_turn w host asked (Some g) = let a = ask w g (host_no host) asked Never in turn_by a.world g.value (host_no host) a.calls a.said

-- a host has the object where it is a member of the view that it knows
abbrev pub is_here : ℕ → Option (Placed ScriptGroup) → Bool
is_here host None = false
is_here host (Some g) = knows_as_member g.value host

-- ---- the world as a port

-- what is printed of the bytes that a host writes
abbrev pub bytes_lines : Option (List ℕ) → List ReportLine
bytes_lines None = []
bytes_lines (Some bytes) = reports.Bytes bytes ∷ []

-- these lines, messages and servant calls behind those so far
abbrev pub further : Effect → World → List ReportLine → ℕ → Effect
further e w lines calls = effect w (e.lines ++ lines) (e.calls + calls)

-- a turn, with its answer as it is written
abbrev pub further_by : Effect → PortTurn → Option (List ℕ) → Effect
further_by e t bytes = further e t.world (t.before ++ (bytes_lines bytes ++ t.behind)) t.calls

abbrev pub written : Effect → List ℕ → Effect
written e bytes = further e e.world (reports.Bytes bytes ∷ []) 0

abbrev pub world_port : ℕ → Port Effect
world_port host = record {
  ask = λ e key asked reply.
      let t = port_turn e.world host asked (group_keyed e.world key) in further_by e t (reply t.answer);
  here = λ e key. is_here host (group_keyed e.world key);
  write = written;
}

-- ---- the line

abbrev pub end_line : StreamEnd → ReportLine
end_line Closed = reports.LinkClosed
end_line (Malformed why place) = reports.LinkMalformed why place
end_line (TooLarge size) = reports.LinkTooLarge size

abbrev pub with_end : StreamEnd → Effect → Effect
with_end end e = further e e.world (end_line end ∷ []) 0

abbrev pub link_of : World → ℕ → List ℕ → Effect
link_of w host bytes = with_end (session bytes).end (linked (world_port host) (says w []) bytes)

-- a host that is down loses the link
abbrev pub inject_line : World → ℕ → List ℕ → Turn
inject_line w host bytes =
    unless (first_cause (host_causes w host)) 0
    (goes (if is_up w host then link_of w host bytes else says w (reports.LinkLost ∷ [])))
