-- The run of a script that is made: what its `show` prints, behind a line of counts.
use Rattle.std.specs.Prelude.{ℕ, ◌+◌, ◌<◌, ◌++◌, if◌then◌else◌, List, [], ◌∷◌, length, codes, decimal}
use Rattle.std.specs.Str.{bytes_eq}
use Rattle.fault_script.specs.declared.lines.LimitName.TheVariants.{Script}
use Rattle.fault_script.specs.declared.lines.LineFault.{LineFault}
use Rattle.fault_script.specs.declared.lines.LineFault.TheVariants.{Limit}
use Rattle.script_groups.specs.Groups.{entries_of}
use Rattle.script_pieces.specs.Runs.{Rules, LineEffect, Goes, Stops}
use Rattle.script_world.specs.World.{World, empty}
use Rattle.run_top.specs.Playing as script

-- a made script between two of its lines: its world, its rounds, and the lines and servant calls so far
pub record Tally : Type 0 where
  pub world : World
  pub rounds : ℕ
  pub lines : ℕ
  pub calls : ℕ

-- before the first line
abbrev pub fresh : ℕ → Tally
fresh rounds = record { world = empty; rounds = rounds; lines = 0; calls = 0 }

-- after one line more
abbrev pub counted : Tally → World → ℕ → Tally
counted t next calls = record { world = next; rounds = t.rounds; lines = t.lines + 1; calls = t.calls + calls }

-- what is counted, and how many
abbrev pub count_text : List ℕ → ℕ → List ℕ
count_text what number = what ++ decimal number

-- `made N lines L messages M entries J calls C`, of this line and all before it
abbrev pub counts_text : Tally → List ℕ
counts_text t =
    count_text (codes "made ") t.rounds
    ++ (count_text (codes " lines ") t.lines
    ++ (count_text (codes " messages ") (length t.world.messages)
    ++ (count_text (codes " entries ") (entries_of t.world.groups)
    ++ (count_text (codes " calls ") t.calls ++ 10 ∷ []))))

-- the one line whose output is printed
abbrev pub show_text : List ℕ
show_text = codes "show bank"

-- what is printed where a line of this text prints so much in any run
abbrev pub printed : Tally → List ℕ → List ℕ → List ℕ
printed t text out = if bytes_eq text show_text then counts_text t ++ out else []

-- what a line does, of what it does in any run
abbrev pub tallied : Tally → List ℕ → LineEffect World LineFault → LineEffect Tally LineFault
tallied t text (Goes next out calls) = Goes (counted t next calls) (printed (counted t next calls) text out) calls
tallied t text (Stops why calls) = Stops why calls

abbrev pub rules : Rules Tally LineFault
rules = record { effect = λ t text. tallied t text (script.rules.effect t.world text); past = Limit Script }

-- a made script may act the line of this number: its world may, and no more lines were counted before
pub record MayAct (t : Tally) (number : ℕ) : Type 0 where
  pub world : script.MayAct t.world number
  pub few : t.lines < number
