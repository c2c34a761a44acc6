-- What the words of a command line ask for.
use Rattle.std.specs.Prelude.{◌≡◌, true, List, [], codes, Some}
use Rattle.clap.specs.Words.{App, Row, Text, fault_of, kind_of, new_app, subcommand_of, with_subcommand}
use Rattle.clap.specs.declared.error.Error.{Error}
use Rattle.clap.specs.declared.error.kind.ErrorKind.TheVariants.{OutOfMemory}
use Rattle.command_line.specs.declared.command.Action.{Action}
use Rattle.command_line.specs.declared.command.Action.TheVariants.{Calls, Replay, Serve}
use Rattle.command_line.specs.Options.{HasOptions, serve_command}

-- a command has to be named
abbrev pub asks_for_command : App → App
asks_for_command a = record a { top = record a.top { subcommand_required = true } }

-- `--version` is answered
abbrev pub names_version : App → App
names_version a = record a { top = record a.top { has_version = true } }

-- the program, without commands
abbrev pub program : App
program = asks_for_command (names_version (new_app (codes "mesos_node")))

-- the program's commands without arguments: `calls` and `replay`
abbrev pub plain_commands : App
plain_commands =
    with_subcommand (with_subcommand program (new_app (codes "calls")).top)
    (new_app (codes "replay")).top

-- and with `serve`
abbrev pub command_line : App
command_line = with_subcommand plain_commands serve_command.top

-- the table of commands takes the words, the program's name first: they have no fault by `clap`'s
-- definitions
abbrev pub IsTaken : List Text → Type 0
IsTaken words = fault_of command_line words ≡ []

-- memory ran out
abbrev pub IsWantOfMemory : Error → Type 0
IsWantOfMemory e = kind_of e ≡ OutOfMemory

-- the name of a command, and the options after it, are this action's
abbrev pub IsAction : Text → List Row → Action → Type 0
IsAction name rows Calls = name ≡ codes "calls"
IsAction name rows Replay = name ≡ codes "replay"
IsAction name rows (Serve options) = (name ≡ codes "serve") × HasOptions rows options

-- the words, the program's name first, ask for this action
pub record AsksFor (words : List Text) (action : Action) : Type 0 where
  pub name : Text
  pub rows : List Row
  pub command : subcommand_of command_line words ≡ Some (name, rows)
  pub named : IsAction name rows action
