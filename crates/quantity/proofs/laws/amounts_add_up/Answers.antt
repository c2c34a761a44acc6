use Rattle.quantity.proofs.Amounts.{amount-append as law}
use Rattle.quantity.proofs.laws.amounts_add_up.Goals as goal

pub returns : goal.returns
returns c = law
