-- What the calls of a link answer.
use Rattle.std.specs.Prelude.{◌≡◌, ℕ, ◌+◌, ◌≤◌, false, List, [], Option, Result, Ok, Err}
use Rattle.ft_base.specs.declared.memory.NoMemory.{NoMemory}
use Rattle.ft_report.specs.declared.reports.ReportLine.{ReportLine}
use Rattle.giop_stream.specs.declared.sessions.StreamEnd.{StreamEnd}
use Rattle.giop_stream.specs.Parts.{Received}
use Rattle.giop_stream.specs.Sessions.{session}
use Rattle.link_session.specs.Calls.{calling_of}
use Rattle.link_session.specs.Ports.{linked, ended, step}
use Rattle.link_session.specs.Serving.{IsAnswered}
use Rattle.ft_world.specs.Links.{PortTurn, further_by, world_port}
use Rattle.ft_world.specs.Passes.{Exchanges, Lines, Pass, octets, pass_at, with_turn}
use Rattle.script_world.specs.World.{World}
use Rattle.world_turns.specs.Turns.{Effect, effect, says}

-- a change of the effects so far: the world is another, lines are added, and servant calls are counted
pub record IsChange (change : Effect → Effect) (old new : World) (report later : List ReportLine) (before now : ℕ) : Type 0 where
  pub calls : ℕ
  pub is : (so_far : ℕ) → change (effect old report so_far) ≡ effect new later (so_far + calls)
  pub counted : now ≡ before + calls

-- no more servant calls than it makes, whatever was called before
abbrev pub IsWithin : (Effect → Effect) → World → List ReportLine → ℕ → ℕ → Type 0
IsWithin change old report before now = (so_far : ℕ) → so_far + now ≤ before + (change (effect old report so_far)).calls

abbrev pub Changes : (Effect → Effect) → Result (Unit {0}) NoMemory → World → World → List ReportLine → List ReportLine → ℕ → ℕ → Type 0
Changes change (Ok u) old new report later before now = IsChange change old new report later before now
Changes change (Err why) old new report later before now = IsWithin change old report before now

-- A message was answered by these bytes, which aren't printed yet. Whatever was printed and called before, that is the turn
-- which the message took; where it took none, the turn does nothing.
pub record IsTaken (host : ℕ) (m : Received) (old new : Pass) (lines later : Lines) (bytes : Option (List ℕ)) : Type 0 where
  pub answered : IsAnswered Exchanges host m.1 (calling_of m.0) old new bytes
  pub turn : PortTurn
  pub pass : new ≡ pass_at turn.world (old.calls + turn.calls) false
  pub printed : later ≡ with_turn lines turn
  pub stepped : (report : List ReportLine) (so_far : ℕ) →
      step (world_port host) (effect old.world report so_far) m.0 m.1 ≡ further_by (effect old.world report so_far) turn bytes
  pub before : octets turn.before ≡ []
  pub behind : octets turn.behind ≡ []
  pub hosts : turn.world.hosts ≡ old.world.hosts

-- a link was served up to its end, which is owed an answer still
pub record IsServed (w : World) (host : ℕ) (bytes : List ℕ) (end : StreamEnd) (new : World) (report : List ReportLine) (before now : ℕ) : Type 0 where
  pub calls : ℕ
  pub over : (session bytes).end ≡ end
  pub is : linked (world_port host) (says w []) bytes ≡ ended (world_port host) (effect new report calls) end
  pub counted : now ≡ before + calls

abbrev pub Served : World → ℕ → List ℕ → Result StreamEnd NoMemory → World → List ReportLine → ℕ → ℕ → Type 0
Served w host bytes (Ok end) new report before now = IsServed w host bytes end new report before now
Served w host bytes (Err why) new report before now = now ≤ before + (linked (world_port host) (says w []) bytes).calls
