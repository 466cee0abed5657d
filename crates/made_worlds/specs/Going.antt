-- Scripts of which no line is refused.
use Rattle.std.specs.Prelude.{ℕ, ◌≤◌, List, [], ◌∷◌}
use Rattle.fault_script.specs.declared.lines.Line.{Line}
use Rattle.ft_world.specs.Acts.{act}
use Rattle.made_lines.specs.Made.{made_lines}
use Rattle.script_world.specs.World.{World, empty}
use Rattle.world_turns.specs.Turns.{Turn, Goes, Refused}

-- the line isn't refused, and this holds of the world after it
abbrev pub LeadsTo : Turn → (World → Type 0) → Type 0
LeadsTo (Goes next report calls) P = P next
LeadsTo (Refused why calls) P = ⊥

-- none of these lines is refused, each acting on the world that the one before it left
unfoldable pub AllGo : World → List Line → Type 0
AllGo w [] = Unit {0}
AllGo w (line ∷ lines) = LeadsTo (act w line) (λ next. AllGo next lines)

-- No line of a script that is made, of up to 50,000 rounds, is refused.
abbrev pub MadeLinesGo : Type 0
MadeLinesGo = (number : ℕ) → number ≤ 50000 → AllGo empty (made_lines number)
