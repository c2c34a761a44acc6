use Rattle.std.proofs.Common.{◌∙◌}
use Rattle.desk_core.proofs.Answering.{last_is}
use Rattle.desk_core.proofs.desk.pass.Pass.last.Goals as goal

pub returns-clause-pushed : goal.returns-clause-pushed
returns-clause-pushed g c = λ before r is. c.last_of.ensures ∙ last_is c.receipts.result.now before r (c.receipts.ensures ∙ is)
