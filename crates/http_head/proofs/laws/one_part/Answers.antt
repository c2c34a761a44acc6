use Rattle.http_head.proofs.Parts.{one_part}
use Rattle.http_head.proofs.laws.one_part.Goals as goal

pub returns : goal.returns
returns c = one_part
