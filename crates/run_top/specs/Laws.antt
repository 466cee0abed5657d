-- What holds of every script that is made.
use Rattle.std.specs.Prelude.{◌≡◌, ℕ, ◌≤◌}
use Rattle.made_scripts.specs.Scripts.{script_text}
use Rattle.run_top.specs.Headline.{Run, made_run, script_run}

-- two runs end alike, with as many servant calls
pub record EndsAlike (a b : Run) : Type 0 where
  pub status : a.status ≡ b.status
  pub err : a.err ≡ b.err
  pub calls : a.calls ≡ b.calls

-- a script that is made runs as its text does
abbrev pub MadeRunsAreRuns : Type 0
MadeRunsAreRuns = (rounds : ℕ) → EndsAlike (made_run rounds) (script_run (script_text rounds))

-- and none of its lines is refused, of any number of rounds that `--make` takes
abbrev pub MadeRunsAreWhole : Type 0
MadeRunsAreWhole = (rounds : ℕ) → rounds ≤ 50000 → (made_run rounds).status ≡ 0
