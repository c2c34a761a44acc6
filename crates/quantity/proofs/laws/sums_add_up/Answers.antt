use Rattle.quantity.proofs.Sums.{sums_add_up as law}
use Rattle.quantity.proofs.laws.sums_add_up.Goals as goal

pub returns : goal.returns
returns c = law
