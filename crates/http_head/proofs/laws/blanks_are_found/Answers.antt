use Rattle.http_head.proofs.Parts.{blank_is, blank_at}
use Rattle.http_head.proofs.laws.blanks_are_found.Goals as goal

pub returns : goal.returns
returns c = λ text. (blank_is text, blank_at text)
