-- What the text of a script that is made reads as, line by line.
use Rattle.std.specs.Prelude.{◌≡◌, ℕ, ◌≤◌, List, length, sum_by, Some, Ok}
use Rattle.std.specs.List.{AllZip}
use Rattle.fault_script.specs.Forms.{parse}
use Rattle.fault_script.specs.declared.lines.Line.{Line}
use Rattle.made_scripts.specs.Scripts.{script_text}
use Rattle.script_pieces.specs.Runs.{lines_of, script_limit, text_of}
use Rattle.made_lines.specs.Made.{made_lines}

-- a line's text, with its LF, reads as this line
abbrev pub IsReadAs : List ℕ → Line → Type 0
IsReadAs text line = parse (text_of text) ≡ Ok (Some line)

-- texts read as these lines, one for one
abbrev pub ReadAs : List (List ℕ) → List Line → Type 0
ReadAs texts lines = AllZip IsReadAs texts lines

-- the script of so many rounds reads as its lines, and none of them goes past the most bytes of a script
pub record IsMadeRead (number : ℕ) : Type 0 where
  pub lines : ReadAs (lines_of (script_text number)) (made_lines number)
  pub fits : sum_by length (lines_of (script_text number)) ≤ script_limit

-- of whatever number of rounds that `--make` takes
abbrev pub MadeTextsRead : Type 0
MadeTextsRead = (number : ℕ) → number ≤ 50000 → IsMadeRead number
