-- The command by which `clap` reads the words behind `live`.
use Rattle.std.specs.Prelude.{List, map, codes, true, Some}
use Rattle.clap.specs.Walk.{Rule, Text}
use Rattle.clap.specs.Simple.{App, new_app, new_rule}

-- an option with one value, of which only the long name is set
abbrev pub option_rule : Text → Rule
option_rule name = record (new_rule name) { long = Some name }

-- a command with these options, whose words begin with no name of a program
abbrev pub command_of : List Text → App
command_of names =
    record (new_app (codes "live")) {
      top = record (new_app (codes "live")).top { rules = map option_rule names; no_binary_name = true; disable_help_flag = true; disable_version_flag = true };
    }
