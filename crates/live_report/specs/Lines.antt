-- The lines of a live run's clients: one for each call, which says how it ended, and where that isn't the group's reply.
use Rattle.std.specs.Prelude.{ℕ, Bool, true, false, not, List, [], ◌∷◌, codes, decimal, bytes_eq, Option, Some, None}
use Rattle.ft_base.specs.declared.requests.Outcome.{Outcome}
use Rattle.ft_base.specs.declared.requests.Outcome.TheVariants as outcomes
use Rattle.ft_base.specs.declared.requests.Par.{Par}
use Rattle.ft_base.specs.declared.requests.Par.TheVariants.{I64}
use Rattle.client_retry.specs.declared.answers.End.{End}
use Rattle.client_retry.specs.declared.answers.End.TheVariants as ends
use Rattle.report_words.specs.Words.{line}
use Rattle.ft_report.specs.Report.{end_text, outcome_text}
use Rattle.ft_report.specs.declared.outcomes.ReportOutcome.{ReportOutcome}
use Rattle.ft_report.specs.declared.outcomes.ReportOutcome.TheVariants.{Value}
use Rattle.ft_report.specs.declared.outcomes.Worth.TheVariants.{Void}
use Rattle.shown_ends.specs.Ends.{shown_end, shown_outcome}

-- ---- whether an end is the group's reply

abbrev pub is_same : Outcome → Outcome → Bool
is_same (outcomes.Value one) (outcomes.Value other) = bytes_eq one other
is_same (outcomes.User one) (outcomes.User other) = bytes_eq one other
is_same one other = false

-- A call ended by an outcome, and the group has another for it, or none. No other end says what the group's reply is.
abbrev pub differs : End → Option Outcome → Bool
differs (ends.Outcome told) None = true
differs (ends.Outcome told) (Some held) = not (is_same held told)
differs end replied = false

-- ---- words

-- what a live client's operation gives
abbrev gives : Option Par
gives = Some I64

-- the group's reply; void where it has none
abbrev pub shown_reply : Option Outcome → ReportOutcome
shown_reply None = Value Void
shown_reply (Some outcome) = shown_outcome gives outcome

abbrev pub reply_text : Option Outcome → List ℕ
reply_text replied = outcome_text (shown_reply replied)

abbrev pub told_text : End → List ℕ
told_text end = end_text (shown_end gives end)

-- the group's reply, where an end differs from it
abbrev pub differing_text : Bool → Option Outcome → Option (List ℕ)
differing_text false replied = None
differing_text true replied = Some (reply_text replied)

-- ---- lines

-- the words behind a call's end: the group's reply, where that is said
abbrev pub differing_words : Option (List ℕ) → List (List ℕ)
differing_words None = []
differing_words (Some reply) = codes "differs" ∷ reply ∷ []

-- the line of a client's call with its end in words, and the group's reply where it differs
abbrev pub client_line : ℕ → ℕ → List ℕ → Option (List ℕ) → List ℕ
client_line client call end differs =
    line (codes "client" ∷ decimal client ∷ codes "call" ∷ decimal call ∷ end ∷ differing_words differs)

-- the line of a client's call with this end, where the group has this reply to it
abbrev pub call_line : ℕ → ℕ → End → Option Outcome → List ℕ
call_line client call end replied = client_line client call (told_text end) (differing_text (differs end replied) replied)
