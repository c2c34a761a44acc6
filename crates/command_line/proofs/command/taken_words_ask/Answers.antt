use Rattle.command_line.proofs.Taken.{words_ask}
use Rattle.command_line.proofs.command.taken_words_ask.Goals as goal

pub returns : goal.returns
returns c = words_ask
