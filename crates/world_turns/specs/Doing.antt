-- What a line does, from what its parts did: laws.
use Rattle.std.proofs.Common.{◌≡◌, ℕ, ◌+◌, arith, List, sym, ap, ◌∙◌}
use Rattle.std.specs.Prelude.{Result, Ok, Err}
use Rattle.ft_base.specs.declared.memory.NoMemory.{NoMemory}
use Rattle.ft_report.specs.declared.reports.ReportLine.{ReportLine}
use Rattle.script_world.specs.World.{World}
use Rattle.world_turns.specs.Answers.{Does, HasDone, calls_of}
use Rattle.world_turns.specs.Turns.{Effect, Turn, Goes, costing, goes}

-- a turn that goes as an effect does
pub acts_by : (turn : Turn) (e : Effect) (report : List ReportLine) (new : World) (before now : ℕ) → turn ≡ goes e → HasDone e report new before now →
    (turn ≡ Goes new report (calls_of turn)) × (now ≡ before + calls_of turn)
acts_by turn e report new before now is done = (
  is ∙ (λ j. Goes (sym done.world j) (sym done.lines j) e.calls) ∙ ap (λ (t : Turn). Goes new report (calls_of t)) (sym is),
  done.calls ∙ ap (λ (t : Turn). before + calls_of t) (sym is),
)

-- what was done behind servant calls
pub does_behind : (calls : ℕ) (e : Effect) (result : Result (List ReportLine) NoMemory) (new : World) (before between now : ℕ) →
    between ≡ before + calls → Does e result new between now → Does (costing calls e) result new before now
does_behind calls e (Ok report) new before between now is done =
    record { world = done.world; lines = done.lines; calls = omega (arith, is, done.calls) }
does_behind calls e (Err why) new before between now is done = omega (arith, is, done)
