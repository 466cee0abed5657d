-- What a line does: effects, refusals and totals.
use Rattle.std.specs.Prelude.{ℕ, ◌+◌, ◌++◌, Bool, nat_lt, if◌then◌else◌, List, [], ◌∷◌, length, Option, Some, None}
use Rattle.fault_script.specs.declared.lines.LimitName.TheVariants as limits
use Rattle.fault_script.specs.declared.lines.LineFault.{LineFault}
use Rattle.fault_script.specs.declared.lines.LineFault.TheVariants.{Limit}
use Rattle.ft_report.specs.declared.reports.ReportLine.{ReportLine}
use Rattle.script_groups.specs.Groups.{entries_of}
use Rattle.script_world.specs.World.{World}
use Rattle.fault_notifier.specs.declared.limits.TheConstants.{EVENT_LIMIT}
use Rattle.script_world.specs.declared.limits.TheConstants.{BYTE_LIMIT, ENTRY_LIMIT, MESSAGE_LIMIT}

-- what a line does: the world after it, its output lines and its servant calls; or its refusal, with the
-- servant calls of its work
pub data Turn : Type 0 where
  Goes : World → List ReportLine → ℕ → Turn
  Refused : LineFault → ℕ → Turn

-- a world, lines that are printed, and servant calls
pub record Effect : Type 0 where
  pub world : World
  pub lines : List ReportLine
  pub calls : ℕ

abbrev pub effect : World → List ReportLine → ℕ → Effect
effect w lines calls = record { world = w; lines = lines; calls = calls }

-- nothing but these lines
abbrev pub says : World → List ReportLine → Effect
says w lines = effect w lines 0

-- these lines come first
abbrev pub saying : List ReportLine → Effect → Effect
saying lines e = record e { lines = lines ++ e.lines }

-- so many servant calls were made before
abbrev pub costing : ℕ → Effect → Effect
costing calls e = record e { calls = calls + e.calls }

abbrev pub goes : Effect → Turn
goes e = Goes e.world e.lines e.calls

-- ---- refusals

-- the first refusal of a list of causes that stands
pub record Cause : Type 0 where
  pub stands : Bool
  pub why : LineFault

abbrev pub cause : Bool → LineFault → Cause
cause stands why = record { stands = stands; why = why }

abbrev pub first_cause : List Cause → Option LineFault
first_cause [] = None
first_cause (c ∷ causes) = if c.stands then Some c.why else first_cause causes

abbrev pub unless : Option LineFault → ℕ → Turn → Turn
unless None calls turn = turn
unless (Some why) calls turn = Refused why calls

-- ---- totals

pub record Totals : Type 0 where
  pub entries : ℕ
  pub messages : ℕ
  pub bytes : ℕ
  pub faults : ℕ

abbrev pub totals_of : World → Totals
totals_of w = record { entries = entries_of w.groups; messages = length w.messages; bytes = w.bytes; faults = w.subscribers.faults }

abbrev pub total_causes : Totals → List Cause
total_causes t =
    cause (nat_lt ENTRY_LIMIT t.entries) (Limit limits.Entries) ∷ cause (nat_lt MESSAGE_LIMIT t.messages) (Limit limits.Messages)
    ∷ cause (nat_lt BYTE_LIMIT t.bytes) (Limit limits.Bytes) ∷ cause (nat_lt EVENT_LIMIT t.faults) (Limit limits.Faults) ∷ []

-- a line after which a total is too great is refused, and its servant calls count
abbrev pub judged : Turn → Turn
judged (Goes w lines calls) = unless (first_cause (total_causes (totals_of w))) calls (Goes w lines calls)
judged (Refused why calls) = Refused why calls
