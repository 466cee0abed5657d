-- The lines of all clients of a live run.
use Rattle.std.specs.Prelude.{ℕ, ◌+◌, List, [], ◌∷◌, ◌++◌, Option}
use Rattle.ft_base.specs.declared.requests.Outcome.{Outcome}
use Rattle.client_calls.specs.declared.answers.Told.{Told}
use Rattle.client_calls.specs.declared.answers.ToldCall.{ToldCall}
use Rattle.live_report.specs.Lines.{call_line}

-- a group's reply to each call, by the client's number and the call's; none where it has none
abbrev pub Replied : Type 0
Replied = ℕ → ℕ → Option Outcome

module _ {X : Type 0} where
  -- the texts of these, one behind the other; the first has this number
  abbrev pub numbered_texts : (ℕ → X → List ℕ) → ℕ → List X → List ℕ
  numbered_texts text number [] = []
  numbered_texts text number (x ∷ xs) = text number x ++ numbered_texts text (number + 1) xs

abbrev pub told_call_line : Replied → ℕ → ℕ → ToldCall → List ℕ
told_call_line replied client number call = call_line client number call.end (replied client number)

-- the lines of a client's calls
abbrev pub client_lines : Replied → ℕ → Told → List ℕ
client_lines replied client told = numbered_texts (told_call_line replied client) 1 told.calls.items

-- the lines of clients, of whom the first has this number
abbrev pub told_lines : Replied → ℕ → List Told → List ℕ
told_lines replied number tolds = numbered_texts (client_lines replied) number tolds
