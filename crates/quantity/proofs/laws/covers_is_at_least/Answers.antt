use Rattle.quantity.proofs.Amounts.{covers_is_at_least as law}
use Rattle.quantity.proofs.laws.covers_is_at_least.Goals as goal

pub returns : goal.returns
returns c = law
