-- A run of a script, over its whole lines. What a line does is left to `Rules`.
use Rattle.std.specs.Prelude.{ℕ, ◌+◌, ◌==◌, nat_lt, if◌then◌else◌, List, [], ◌∷◌, ◌++◌, length, Option, Some, None}

-- what the text of a line does: it goes on in a new world, with this output and so many servant
-- calls, or it is refused after so many servant calls
pub data LineEffect (World Why : Type 0) : Type 0 where
  Goes : World → List ℕ → ℕ → LineEffect World Why
  Stops : Why → ℕ → LineEffect World Why

-- its servant calls
abbrev pub calls_of : {World Why : Type 0} → LineEffect World Why → ℕ
calls_of (Goes world out calls) = calls
calls_of (Stops why calls) = calls

-- what acts lines, as functions
pub record Rules (World Why : Type 0) : Type 0 where
  -- what the text of a line, without its LF, does in a world
  pub effect : World → List ℕ → LineEffect World Why
  -- why a line past the limit of a script is refused
  pub past : Why

-- what a run does: its output, the first refused line with its number and why, and the servant calls
pub record RunEffect (Why : Type 0) : Type 0 where
  pub out : List ℕ
  pub refused : Option (ℕ × Why)
  pub calls : ℕ

-- the most bytes of a script: 64 MiB
abbrev pub script_limit : ℕ
script_limit = 67108864

-- a byte before some lines
abbrev pub in_front : ℕ → List (List ℕ) → List (List ℕ)
in_front b [] = (b ∷ []) ∷ []
in_front b (line ∷ lines) = (b ∷ line) ∷ lines

-- the lines of a script, each with its LF, which the last may lack
abbrev pub lines_of : List ℕ → List (List ℕ)
lines_of [] = []
lines_of (b ∷ bytes) = if b == 10 then (10 ∷ []) ∷ lines_of bytes else in_front b (lines_of bytes)

-- a line without its LF
abbrev pub text_of : List ℕ → List ℕ
text_of [] = []
text_of (b ∷ line) = if b == 10 then [] else b ∷ text_of line

-- the run of no lines
abbrev pub no_effect : {Why : Type 0} → RunEffect Why
no_effect = record { out = []; refused = None; calls = 0 }

-- a run whose first line, of this number, is refused after so many calls
abbrev pub refusal : {Why : Type 0} → ℕ → Why → ℕ → RunEffect Why
refusal number why calls = record { out = []; refused = Some (number, why); calls = calls }

-- a run behind this output and so many calls
abbrev pub behind : {Why : Type 0} → List ℕ → ℕ → RunEffect Why → RunEffect Why
behind out calls run = record { out = out ++ run.out; refused = run.refused; calls = calls + run.calls }

-- a line's effect, and the rest of the run in the world after it
abbrev pub onward : {World Why : Type 0} → LineEffect World Why → ℕ → (World → RunEffect Why) → RunEffect Why
onward (Goes world out calls) number rest = behind out calls (rest world)
onward (Stops why calls) number rest = refusal number why calls

-- the run of some lines, the first of which has this number and stands behind so many bytes of the script
unfoldable pub run_of_lines : {World Why : Type 0} → Rules World Why → World → ℕ → ℕ → List (List ℕ) → RunEffect Why
run_of_lines rules world number before [] = no_effect
run_of_lines rules world number before (line ∷ lines) =
    if nat_lt script_limit (before + length line) then refusal number rules.past 0
    else onward (rules.effect world (text_of line)) number
    (λ next. run_of_lines rules next (number + 1) (before + length line) lines)

-- the run of a script
abbrev pub run : {World Why : Type 0} → Rules World Why → World → List ℕ → RunEffect Why
run rules world bytes = run_of_lines rules world 1 0 (lines_of bytes)

-- a byte before some whole lines
abbrev pub before_whole : ℕ → List (List ℕ) → List (List ℕ)
before_whole b [] = []
before_whole b (line ∷ lines) = (b ∷ line) ∷ lines

-- the lines of some bytes that have their LF
abbrev pub whole_lines : List ℕ → List (List ℕ)
whole_lines [] = []
whole_lines (b ∷ bytes) = if b == 10 then (10 ∷ []) ∷ whole_lines bytes else before_whole b (whole_lines bytes)

-- the run of those lines of a script that have their LF
abbrev pub whole_run : {World Why : Type 0} → Rules World Why → World → List ℕ → RunEffect Why
whole_run rules world bytes = run_of_lines rules world 1 0 (whole_lines bytes)
