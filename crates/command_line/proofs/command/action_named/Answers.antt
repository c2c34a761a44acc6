use Rattle.clap.specs.Words.{found_of, rows_of}
use Rattle.command_line.proofs.Actions.{no_action}
use Rattle.command_line.proofs.Reading.{at_none}
use Rattle.command_line.proofs.command.action_named.Goals as goal

pub returns-in_err-serve_options-in-serve-clause-none : goal.returns-in_err-serve_options-in-serve-clause-none
returns-in_err-serve_options-in-serve-clause-none c =
    at_none _ c.from_residual.result (no_action c.args.name.now (rows_of (found_of c.args.found.now)) c.in-serve.not-calls c.in-serve.not-replay c.in_err-serve_options-in-serve.ensures.none)
