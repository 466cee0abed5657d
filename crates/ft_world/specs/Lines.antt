-- What the numbers of every line are.
use Rattle.std.specs.Prelude.{◌<◌, ◌^◌}
use Rattle.fault_script.specs.declared.lines.Line.{Line}
use Rattle.fault_script.specs.declared.lines.Line.TheVariants as lines

-- time goes on by a number of 32 bits
abbrev pub IsTimely : Line → Type 0
IsTimely (lines.Tick ticks) = ticks < 2 ^ 32
IsTimely other = Unit {0}
