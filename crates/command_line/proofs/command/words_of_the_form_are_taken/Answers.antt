use Rattle.command_line.proofs.Forms.{calls_is_taken, replay_is_taken, serve_has_values, serve_is_taken}
use Rattle.command_line.proofs.command.words_of_the_form_are_taken.Goals as goal

pub returns : goal.returns
returns c = record { calls = calls_is_taken; replay = replay_is_taken; serve = serve_is_taken; values = serve_has_values }
