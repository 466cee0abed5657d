-- What the text of a script line does to the world, and what it prints.
use Rattle.std.specs.Prelude.{ℕ, [], flat_map, Option, Some, None, Result, Ok, Err}
use Rattle.fault_script.specs.Forms.{parse}
use Rattle.fault_script.specs.declared.lines.Line.{Line}
use Rattle.fault_script.specs.declared.lines.LimitName.TheVariants.{Script}
use Rattle.fault_script.specs.declared.lines.LineFault.{LineFault}
use Rattle.fault_script.specs.declared.lines.LineFault.TheVariants.{Limit}
use Rattle.ft_report.specs.Report.{report_text}
use Rattle.ft_world.specs.Acts.{act}
use Rattle.world_turns.specs.Turns as world
use Rattle.script_world.specs.Sound.{HasActed, IsKeptWorld}
use Rattle.script_world.specs.World.{World}
use Rattle.fault_script.specs.declared.lines.LineFault.TheVariants as faults
use Rattle.script_pieces.specs.Runs.{Rules, LineEffect, Goes, Stops}
use Rattle.script_pieces.specs.declared.actors.LineResult.{LineResult}
use Rattle.script_pieces.specs.declared.actors.LineResult.TheVariants as results

-- what a line does, with its report as bytes
abbrev pub printed_effect : world.Turn → LineEffect World LineFault
printed_effect (world.Goes next report calls) = Goes next (flat_map report_text report) calls
printed_effect (world.Refused why calls) = Stops why calls

-- what a text does by what it reads as; what reads as nothing does nothing
abbrev pub effect_of : World → Result (Option Line) LineFault → LineEffect World LineFault
effect_of w (Err why) = Stops why 0
effect_of w (Ok None) = Goes w [] 0
effect_of w (Ok (Some line)) = printed_effect (act w line)

-- the lines of a script act on a world
abbrev pub rules : Rules World LineFault
rules = record { effect = λ w text. effect_of w (parse text); past = Limit Script }

-- a world that may act the line of this number: it has acted no more lines before, and memory was not wanted
pub record MayAct (w : World) (number : ℕ) : Type 0 where
  pub kept : IsKeptWorld w
  pub acted : HasActed w number

-- a refusal as it is acted: want of memory is none
abbrev pub refusal : LineFault → LineResult LineFault
refusal faults.NoMemory = results.NoMemory
refusal faults.Syntax = results.Stops faults.Syntax
refusal faults.Unknown = results.Stops faults.Unknown
refusal faults.Again = results.Stops faults.Again
refusal (faults.Limit name) = results.Stops (faults.Limit name)
