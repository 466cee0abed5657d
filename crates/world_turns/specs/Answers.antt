-- What a call on a world answers.
use Rattle.std.specs.Prelude.{◌≡◌, ℕ, ◌+◌, ◌≤◌, List, Result, Ok, Err}
use Rattle.ft_base.specs.declared.memory.NoMemory.{NoMemory}
use Rattle.fault_script.specs.declared.lines.LineFault.{LineFault}
use Rattle.fault_script.specs.declared.lines.LineFault.TheVariants as faults
use Rattle.fault_script.specs.declared.lines.LimitName.TheVariants as limits
use Rattle.ft_report.specs.declared.reports.ReportLine.{ReportLine}
use Rattle.script_world.specs.World.{World}
use Rattle.world_turns.specs.Turns.{Effect, Turn, Goes, Refused, saying}

-- what was done: the world, the lines and the servant calls are those of an effect
pub record HasDone (e : Effect) (report : List ReportLine) (new : World) (before now : ℕ) : Type 0 where
  pub world : new ≡ e.world
  pub lines : report ≡ e.lines
  pub calls : now ≡ before + e.calls

-- unless memory was wanted: then no more servant calls were made
abbrev pub Does : Effect → Result (List ReportLine) NoMemory → World → ℕ → ℕ → Type 0
Does e (Ok report) new before now = HasDone e report new before now
Does e (Err why) new before now = now ≤ before + e.calls

-- the same, with its lines behind those of a report
abbrev pub DoesMore : Effect → Result (Unit {0}) NoMemory → List ReportLine → List ReportLine → World → ℕ → ℕ → Type 0
DoesMore e (Ok done) report more new before now = HasDone (saying report e) more new before now
DoesMore e (Err why) report more new before now = now ≤ before + e.calls

-- the calls of a turn
abbrev pub calls_of : Turn → ℕ
calls_of (Goes w lines calls) = calls
calls_of (Refused why calls) = calls

-- a line that goes on had the turn's effect; a refused one has changed nothing
abbrev pub HasRefused : Turn → LineFault → World → World → ℕ → ℕ → Type 0
HasRefused turn faults.NoMemory old new before now = now ≤ before + calls_of turn
HasRefused turn why old new before now = (turn ≡ Refused why 0) × (new ≡ old) × (now ≡ before)

abbrev pub Acts : Turn → Result (List ReportLine) LineFault → World → World → ℕ → ℕ → Type 0
Acts turn (Ok report) old new before now = (turn ≡ Goes new report (calls_of turn)) × (now ≡ before + calls_of turn)
Acts turn (Err why) old new before now = HasRefused turn why old new before now

-- a line with its totals judged: a refusal is the turn's, with the servant calls of its work
abbrev pub DidNot : Turn → LineFault → ℕ → ℕ → Type 0
DidNot turn faults.NoMemory before now = now ≤ before + calls_of turn
DidNot turn why before now = (turn ≡ Refused why (calls_of turn)) × (now ≡ before + calls_of turn)

abbrev pub Did : Turn → Result (List ReportLine) LineFault → World → ℕ → ℕ → Type 0
Did turn (Ok report) new before now = (turn ≡ Goes new report (calls_of turn)) × (now ≡ before + calls_of turn)
Did turn (Err why) new before now = DidNot turn why before now

-- what is said of a line that was refused for itself, and not for a total or want of memory
abbrev pub OnRefusal : LineFault → Type 0 → Type 0
OnRefusal faults.NoMemory P = Unit {0}
OnRefusal (faults.Limit limits.Entries) P = Unit {0}
OnRefusal (faults.Limit limits.Messages) P = Unit {0}
OnRefusal (faults.Limit limits.Bytes) P = Unit {0}
OnRefusal (faults.Limit limits.Faults) P = Unit {0}
OnRefusal other P = P

abbrev pub IfRefused : Result (List ReportLine) LineFault → Type 0 → Type 0
IfRefused (Ok report) P = Unit {0}
IfRefused (Err why) P = OnRefusal why P
