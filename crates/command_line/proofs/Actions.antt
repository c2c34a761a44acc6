-- Words that ask for no action.
use Rattle.std.proofs.Common.{◌≡◌, List, codes}
use Rattle.clap.specs.Words.{Row, Text}
use Rattle.command_line.specs.declared.command.Action.{Action}
use Rattle.command_line.specs.declared.command.Action.TheVariants.{Calls, Replay, Serve}
use Rattle.command_line.specs.declared.options.ServeOptions.{ServeOptions}
use Rattle.command_line.specs.Commands.{IsAction}
use Rattle.command_line.specs.Options.{HasOptions}

pub no_action : (name : Text) (rows : List Row) → (name ≡ codes "calls" → ⊥) → (name ≡ codes "replay" → ⊥) → ((o : ServeOptions) → HasOptions rows o → ⊥) → (a : Action) → IsAction name rows a → ⊥
no_action name rows calls replay serve Calls is = calls is
no_action name rows calls replay serve Replay is = replay is
no_action name rows calls replay serve (Serve o) is = serve o is.1
