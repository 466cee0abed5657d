-- Answers as they are printed.
use Rattle.std.specs.Prelude.{ℕ, List, Option}
use Rattle.ft_base.specs.declared.requests.Par.{Par}
use Rattle.sys_faults.specs.declared.answers.Answer.{Answer}
use Rattle.sys_faults.specs.declared.answers.Answer.TheVariants as answers
use Rattle.ft_report.specs.declared.outcomes.ReportOutcome.{ReportOutcome}
use Rattle.ft_report.specs.declared.outcomes.ReportOutcome.TheVariants as showns
use Rattle.shown_ends.specs.Ends.{shown_outcome}

-- a group's answer, with the group's name where it turns the client to a reference
abbrev pub shown : List ℕ → Option Par → Answer → ReportOutcome
shown group gives (answers.Done outcome) = shown_outcome gives outcome
shown group gives (answers.System fault) = showns.System fault
shown group gives (answers.Forward version) = showns.Forward group version
shown group gives (answers.ForwardPerm version) = showns.ForwardPerm group version
