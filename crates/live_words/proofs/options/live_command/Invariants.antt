use Rattle.std.proofs.Common.{◌≡◌, map, take}
use Rattle.clap.specs.Words.{app_of}
use Rattle.live_words.specs.Command.{command_of}
use Rattle.live_words.proofs.options.live_command.Given as goal

-- the command has the options so far
abbrev pub invariant-loop-name : goal.invariant-loop-name
invariant-loop-name l = app_of l.command ≡ command_of (map (λ s. s.now) (take l.name-index l.name-items))
