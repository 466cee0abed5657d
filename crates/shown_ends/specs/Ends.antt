-- How an invocation's end is shown, and a request's outcome.
use Rattle.std.specs.Prelude.{Option}
use Rattle.ft_base.specs.declared.requests.Par.{Par}
use Rattle.ft_base.specs.declared.requests.Outcome.{Outcome}
use Rattle.ft_base.specs.declared.requests.Outcome.TheVariants as outcomes
use Rattle.client_retry.specs.declared.answers.End.{End}
use Rattle.client_retry.specs.declared.answers.End.TheVariants as ends
use Rattle.ft_report.specs.Worth.{worth_in}
use Rattle.ft_report.specs.declared.outcomes.ReportOutcome.{ReportOutcome}
use Rattle.ft_report.specs.declared.outcomes.ReportOutcome.TheVariants as showns
use Rattle.ft_report.specs.declared.reports.CallEnd.{CallEnd}
use Rattle.ft_report.specs.declared.reports.CallEnd.TheVariants as shown_ends

-- an outcome, of an operation that gives this
abbrev pub shown_outcome : Option Par → Outcome → ReportOutcome
shown_outcome gives (outcomes.Value value) = showns.Value (worth_in gives value)
shown_outcome gives (outcomes.User name) = showns.User name

-- how an invocation ended; an outcome of an operation that gives this
abbrev pub shown_end : Option Par → End → CallEnd
shown_end gives (ends.Outcome outcome) = shown_ends.Shown (shown_outcome gives outcome)
shown_end gives (ends.System fault) = shown_ends.Shown (showns.System fault)
shown_end gives (ends.NoResponse expiration now) = shown_ends.NoResponse expiration now
shown_end gives (ends.Transient faults profiles) = shown_ends.Transient faults profiles
shown_end gives ends.IdsSpent = shown_ends.IdsSpent
